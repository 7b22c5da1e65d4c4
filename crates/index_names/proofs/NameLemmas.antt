-- What is read is ASCII, and what is no text is read as nothing.
use Rattle.std.proofs.Common.{◌≡◌, ℕ, List, Option, Some, None, refl}
use Rattle.std.specs.Prelude.{IsSome}
use Rattle.std.specs.Str.{IsAscii, IsUtf8}
use Rattle.std.proofs.lemmas.Bool.{false≢true}
use Rattle.std.proofs.lemmas.Str.{IsUtf8-from_ascii}
use Rattle.index_names.specs.Project.{read_name}
use Rattle.index_names.specs.Release.{read_release}
use Rattle.index_names.specs.FileName.{read_file_name}
use Rattle.index_names.proofs.AsciiLemmas.{IsAscii-name, IsAscii-version_text, IsAscii-file_name}
use Rattle.index_names.proofs.NormalFormLaws.{project_name-read_name}
use Rattle.index_names.proofs.ReleaseLaws.{version_text-read_release}

none_where : {A : Type 0} (read : Option A) → ((x : A) → ¬ (read ≡ Some x)) → read ≡ None
none_where None lacks = refl
none_where (Some x) lacks = absurd (lacks x refl)

some_where : {A : Type 0} (read : Option A) → IsSome read → (x : A) × (read ≡ Some x)
some_where None is_some = absurd (false≢true is_some)
some_where (Some x) is_some = (x, refl)

pub read_name-ascii : (x : List ℕ) → IsSome (read_name x) → IsAscii x
read_name-ascii x is_read =
    let read = some_where (read_name x) is_read in
    IsAscii-name x (project_name-read_name x read.0 read.1)

pub read_name-no_text : (x : List ℕ) → ¬ (IsUtf8 x) → read_name x ≡ None
read_name-no_text x no_text =
    none_where (read_name x) (λ name reads. no_text (IsUtf8-from_ascii x (IsAscii-name x (project_name-read_name x name reads))))

pub read_release-no_text : (x : List ℕ) → ¬ (IsUtf8 x) → read_release x ≡ None
read_release-no_text x no_text =
    none_where (read_release x) (λ release reads. no_text
    (IsUtf8-from_ascii x (IsAscii-version_text x (version_text-read_release x release reads))))

pub read_file_name-no_text : (f : List ℕ) → ¬ (IsUtf8 f) → read_file_name f ≡ None
read_file_name-no_text f no_text =
    none_where (read_file_name f) (λ spelled reads. no_text (IsUtf8-from_ascii f (IsAscii-file_name f spelled reads)))
