use Rattle.index_pages.proofs.Words.{◌≡◌, ◌++◌, false, Bytes, releases_text, ExtendsText}
use Rattle.index_pages.proofs.project.append_releases.Given as goal

-- the text so far, and that of the releases that are left
abbrev pub invariant-loop-release : goal.invariant-loop-release
invariant-loop-release g l =
    (text : Bytes) × ExtendsText g.O.Pieces.holds l.fn.out l.out text
    × (text ++ releases_text l.is_later l.release-iterator ≡ releases_text false l.releases.keys)
