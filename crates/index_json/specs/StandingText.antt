-- The text of a standing: compact JSON with keys in byte order.
use Rattle.std.specs.Prelude.{◌≡◌, ℕ, List, map, Option, Some, None, OnOk, Result, String, codes}
use Rattle.std.specs.BTreeMap.{BTreeMap}
use Rattle.std.specs.declared.alloc.Global.{Global}
use Rattle.serde_json.specs.Data.{Data, null, boolean, number, unsigned, string, array, object}
use Rattle.serde_json.specs.Data.{Members, no_members, member, put}
use Rattle.serde_json.specs.View.{items_of, members_view}
use Rattle.serde_json.specs.Written.{compact_text}
use Rattle.serde_json.specs.declared.value.Value.{Value}
use Rattle.index_retention.specs.declared.attempts.CaseKind.{CaseKind}
use Rattle.index_retention.specs.declared.attempts.CaseKind.TheVariants.{Continue, Reuse}
use Rattle.index_retention.specs.declared.attempts.CaseState.{CaseState}
use Rattle.index_rules.specs.declared.records.CaseRecord.{CaseRecord}
use Rattle.index_rules.specs.Projects.{Project}
use Rattle.index_rules.specs.declared.standing.HeldName.{HeldName}
use Rattle.index_rules.specs.declared.standing.Standing.{Standing}
use Rattle.index_rules.specs.declared.standing.Standing.TheVariants as standing

-- a whole number
abbrev pub whole : ℕ → Data
whole n = number (unsigned n)

-- an array of texts
abbrev pub text_array : List (List ℕ) → Data
text_array list = array (items_of (map string list))

-- a name that is not held
abbrev pub unheld_value : List ℕ → List ℕ → Data
unheld_value name state = object
    (member (codes "name") (string name)
    (member (codes "state") (string state)
    no_members))

-- a moment, or `null`
abbrev pub moment_value : Option ℕ → Data
moment_value None = null
moment_value (Some at) = whole at

-- the word for a kind of case
abbrev pub kind_text : CaseKind → List ℕ
kind_text Continue = codes "continue"
kind_text Reuse = codes "reuse"

-- an open case as a JSON object
abbrev pub open_case_value : CaseRecord → Data
open_case_value opened = object
    (member (codes "attempts") (whole opened.state.attempts)
    (member (codes "author") (boolean opened.state.author)
    (member (codes "candidate") (string opened.candidate)
    (member (codes "contact") (string opened.contact)
    (member (codes "first") (moment_value opened.state.first)
    (member (codes "kind") (string (kind_text opened.kind))
    (member (codes "opened") (whole opened.opened)
    (member (codes "pages") (boolean opened.state.pages)
    (member (codes "profile") (boolean opened.state.profile)
    (member (codes "sent") (whole opened.state.sent)
    (member (codes "why") (string opened.why)
    (member (codes "work") (string opened.work)
    no_members))))))))))))

-- the case of a name, or `null`
abbrev pub case_value : Option CaseRecord → Data
case_value None = null
case_value (Some opened) = open_case_value opened

-- a held name as a JSON object
abbrev pub held_value : HeldName → Data
held_value held = object
    (member (codes "case") (case_value held.case)
    (member (codes "charge") (whole held.project.charge)
    (member (codes "name") (string held.name)
    (member (codes "owners") (text_array held.owners)
    (member (codes "quota") (whole held.project.quota)
    (member (codes "shown") (string held.project.shown)
    (member (codes "state") (string (codes "held"))
    no_members)))))))

-- a standing as a JSON object
abbrev pub standing_value : Standing → Data
standing_value (standing.Free name) = unheld_value name (codes "free")
standing_value (standing.Prohibited name) = unheld_value name (codes "prohibited")
standing_value (standing.Held held) = held_value held

-- the text of a standing: its object, printed compactly
unfoldable pub standing_text_of : Standing → List ℕ
standing_text_of standing = compact_text (standing_value standing)

-- ---- the members that are put into an object, in any order

-- the members were put into an object, unless memory ran out
abbrev pub PutsMembers : {A E : Type 0} → BTreeMap (String Global) Value
    → BTreeMap (String Global) Value → Result A E → (Members → Members) → Type 0
PutsMembers old new result change =
    OnOk result (members_view new.entries ≡ change (members_view old.entries))

-- puts members before other members, as the code does
abbrev pub name_put : List ℕ → List ℕ → Members → Members
name_put name state members =
    put (codes "state") (string state)
    (put (codes "name") (string name) members)

abbrev pub project_put : Project → Members → Members
project_put project members =
    put (codes "shown") (string project.shown)
    (put (codes "quota") (whole project.quota)
    (put (codes "charge") (whole project.charge) members))

abbrev pub held_put : HeldName → Members → Members
held_put held members =
    name_put held.name (codes "held")
    (project_put held.project
    (put (codes "owners") (text_array held.owners)
    (put (codes "case") (case_value held.case) members)))

abbrev pub standing_put : Standing → Members → Members
standing_put (standing.Free name) members = name_put name (codes "free") members
standing_put (standing.Prohibited name) members = name_put name (codes "prohibited") members
standing_put (standing.Held held) members = held_put held members

abbrev pub means_put : CaseState → Members → Members
means_put state members =
    put (codes "profile") (boolean state.profile)
    (put (codes "pages") (boolean state.pages)
    (put (codes "author") (boolean state.author) members))

abbrev pub times_put : CaseRecord → Members → Members
times_put opened members =
    put (codes "sent") (whole opened.state.sent)
    (put (codes "opened") (whole opened.opened)
    (put (codes "first") (moment_value opened.state.first)
    (put (codes "attempts") (whole opened.state.attempts) members)))

abbrev pub case_texts_put : CaseRecord → Members → Members
case_texts_put opened members =
    put (codes "work") (string opened.work)
    (put (codes "why") (string opened.why)
    (put (codes "kind") (string (kind_text opened.kind))
    (put (codes "contact") (string opened.contact)
    (put (codes "candidate") (string opened.candidate) members))))

abbrev pub case_put : CaseRecord → Members → Members
case_put opened members = case_texts_put opened (times_put opened (means_put opened.state members))
