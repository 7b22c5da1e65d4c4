-- The bytes of pieces, cut at a piece.
use Rattle.std.proofs.Common.{◌≡◌, ℕ, ◌+◌, ◌<◌, ◌≤◌, List, ◌∷◌, ◌++◌, length, take, drop, get_or, Bor, sym, ◌∙◌, ap, arith, add-one}
use Rattle.std.proofs.Common.{length-append}
use Rattle.std.proofs.lemmas.List.{take-append-le, take-append-drop}
use Rattle.std.proofs.lemmas.Grind.{flat_map-append}
use Rattle.std.proofs.Math.Seq.{take-append-add, drop-cons}
use Rattle.index_io.specs.Bytes.{joined}

-- the pieces before the i-th, that piece, and those behind it
pub joined-cut : (pieces : List (Bor (List ℕ))) (i : ℕ) (none : Bor (List ℕ)) → i < length pieces
    → joined pieces ≡ joined (take i pieces) ++ ((get_or pieces i none).now ++ joined (drop (i + 1) pieces))
joined-cut pieces i none within =
    let rest : drop i pieces ≡ get_or pieces i none ∷ drop (i + 1) pieces = rw add-one (drop-cons pieces i none within) in
    ap joined (sym (take-append-drop i pieces) ∙ ap (λ more. take i pieces ++ more) rest)
    ∙ flat_map-append (λ (piece : Bor (List ℕ)). piece.now) (take i pieces) (get_or pieces i none ∷ drop (i + 1) pieces)

-- the first bytes of a piece are the last of those that went out
pub take-joined : (pieces : List (Bor (List ℕ))) (i count : ℕ) (none : Bor (List ℕ)) → i < length pieces
    → count ≤ length (get_or pieces i none).now
    → take (length (joined (take i pieces)) + count) (joined pieces) ≡ joined (take i pieces) ++ take count (get_or pieces i none).now
take-joined pieces i count none within few =
    let before = joined (take i pieces) in
    let piece = (get_or pieces i none).now in
    let behind = joined (drop (i + 1) pieces) in
    ap (take (length before + count)) (joined-cut pieces i none within)
    ∙ take-append-add before (piece ++ behind) count
    ∙ ap (λ more. before ++ more) (take-append-le count piece behind few)

-- no more bytes stand up to the end of a piece than in all pieces
pub length-joined-take : (pieces : List (Bor (List ℕ))) (i : ℕ) (none : Bor (List ℕ)) → i < length pieces
    → length (joined (take i pieces)) + length (get_or pieces i none).now ≤ length (joined pieces)
length-joined-take pieces i none within =
    let cut = ap length (joined-cut pieces i none within) in
    omega (arith, simp length-append at cut)
