-- Header fields (RFC 9110, section 5).
use Rattle.std.specs.Prelude.{◌≡◌, Bool, List, [], ◌∷◌, map, if◌then◌else◌, bytes_eq}
use Rattle.std.specs.Borrow.{Bor}
use Rattle.std.specs.Char.{to_ascii_lowercase}
use Rattle.std.specs.Global.{Vec}
use Rattle.index_rules.specs.Maps.{Bytes}
use Rattle.httparse.specs.Grammar.{RequestHead}
use Rattle.httparse.specs.Spans.{header_bytes, name_and_value}
use Rattle.httparse.specs.declared.spans.HeaderSpan.{HeaderSpan}
use Rattle.index_message.specs.declared.head.Found.{Found}
use Rattle.index_message.specs.declared.head.Found.TheVariants.{Missing, Once, Again}

-- a header field: its name, and its value without the white space around it
abbrev pub Field : Type 0
Field = Bytes × Bytes

-- the header fields of a head, in order
abbrev pub fields_of : RequestHead → List Field
fields_of head = map name_and_value head.fields

-- the header fields that lie at these spans
abbrev pub fields_at : Bytes → List HeaderSpan → List Field
fields_at bytes spans = map (header_bytes bytes) spans

-- the field has this name, in any case (RFC 9110, section 5.1)
abbrev pub is_named : Bytes → Field → Bool
is_named name field = bytes_eq (map to_ascii_lowercase field.0) (map to_ascii_lowercase name)

-- the values of the fields with this name, in order
abbrev pub values_of : Bytes → List Field → List Bytes
values_of name [] = []
values_of name (field ∷ fields) =
    if is_named name field then field.1 ∷ values_of name fields else values_of name fields

-- the first value, or nothing if there is none
abbrev pub first_or_empty : List Bytes → Bytes
first_or_empty [] = []
first_or_empty (value ∷ more) = value

-- the value of the first field with this name, or nothing if there is none
abbrev pub value_of : Bytes → List Field → Bytes
value_of name fields = first_or_empty (values_of name fields)

-- the values, as they lie in the bytes
abbrev pub AreValues : List Bytes → Vec (Bor Bytes) → Type 0
AreValues values found = map (λ value. value.now) found.items ≡ values

-- how often a field was found, with its value if it was found once
abbrev pub AreFound : Found → List Bytes → Type 0
AreFound Missing values = values ≡ []
AreFound (Once value) values = values ≡ value.now ∷ []
AreFound Again values =
    (first second : Bytes) × (more : List Bytes) × (values ≡ first ∷ second ∷ more)
