-- ResultIsRead the keys of a JSON object.
use Rattle.std.specs.Prelude.{Bool, Err, IfErr, IfOk, List, None, Option, Result, Some}
use Rattle.std.specs.Prelude.{if◌then◌else◌, option_and_then, option_map, ℕ, ◌==◌, ◌≡◌}
use Rattle.serde_json.specs.Data.{Data}
use Rattle.index_json.specs.declared.object_reader.ObjectReader.{ObjectReader}
use Rattle.index_json.specs.declared.object_reader.Unread.{Unread}
use Rattle.index_json.specs.declared.object_reader.Unread.TheVariants.{NotARequest}
use Rattle.index_json.specs.Json.{flag_at, number_at, text_at}
use Rattle.index_json.specs.Object.{Object, object_of, whole_object, with_key_read}

-- what is read of an object, and the object after it
abbrev pub Reading : Type 0 → Type 0
Reading A = Object → Option (A × Object)

-- the next reading, if this one found something
infixl 10 ◌>>=◌
-- One reading and then the next. Nothing is read if either reads nothing.
abbrev pub ◌>>=◌ : {A B : Type 0} → Reading A → (A → Reading B) → Reading B
reading >>= next = λ object. option_and_then (λ found. next found.0 found.1) (reading object)

-- reads this value from any object
abbrev pub always : {A : Type 0} → A → Reading A
always this = λ object. Some (this, object)

-- reads this value from any object, if there is one
abbrev pub maybe : {A : Type 0} → Option A → Reading A
maybe this = λ object. option_map (λ found. (found, object)) this

-- reads the value at a key by a function
abbrev pub at_key : {A : Type 0} → (Data → Option A) → Reading A
at_key find = λ object. option_map (λ found. (found, with_key_read object)) (find object.value)

-- reads the text at a key
abbrev pub text : List ℕ → Reading (List ℕ)
text key = at_key (text_at key)

-- reads the number at a key
abbrev pub number : List ℕ → Reading ℕ
number key = at_key (number_at key)

-- reads the flag at a key
abbrev pub flag : List ℕ → Reading Bool
flag key = at_key (flag_at key)

-- reads the texts at two keys
abbrev pub texts : List ℕ → List ℕ → Reading (List ℕ × List ℕ)
texts first second = do
  one ← text first
  other ← text second
  always (one, other)

-- what was found, if no key of the object is left
abbrev pub if_whole : {A : Type 0} → A × Object → Option A
if_whole found = if found.1.left == 0 then Some found.0 else None

-- what is read of a value, if no key of it is left
abbrev pub read_whole : {A : Type 0} → Reading A → Data → Option A
read_whole reading value = option_and_then if_whole (reading (whole_object value))

-- the result, seen by `seen`, is what is read, and `NotARequest` if nothing is; or memory ran out
abbrev pub ResultIsReadAs : {A B : Type 0} → (A → B) → Result A Unread → Option B → Type 0
ResultIsReadAs seen result read =
    IfOk result (λ found. read ≡ Some (seen found)) × (result ≡ Err NotARequest → read ≡ None)

-- the result is what is read
abbrev pub ResultIsRead : {A : Type 0} → Result A Unread → Option A → Type 0
ResultIsRead result read = ResultIsReadAs (λ found. found) result read

-- the result and the reader after it are what is read of the reader's object
abbrev pub ObjectIsReadTo : {A : Type 0} → ObjectReader → ObjectReader → Result A Unread
    → Reading A → Type 0
ObjectIsReadTo before after result reading =
    ResultIsReadAs (λ found. (found, object_of after)) result (reading (object_of before))

-- what is found in the object is what is read, and takes no memory
pub record FindsAs {A B : Type 0} (seen : A → B) (before after : ObjectReader)
    (result : Result A Unread) (reading : Reading B) : Type 0 where
  pub reads : ResultIsReadAs (λ found. (seen found, object_of after)) result
      (reading (object_of before))
  pub memory : IfErr result (λ unread. unread ≡ NotARequest)
