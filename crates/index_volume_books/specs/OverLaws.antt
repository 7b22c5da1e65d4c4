-- What a crash leaves of honest books over a volume.
use Rattle.std.specs.Prelude.{◌≡◌, ℕ, Bool, List, Option, Some, None, option_map, take}
use Rattle.std.specs.FinMap.{get, same_map}
use Rattle.std.proofs.Common.{◌∙◌, ap, refl, sym}
use Rattle.std.proofs.lemmas.Cmp.{nat_list_cmp_total}
use Rattle.std.proofs.lemmas.Map.Lookups.{exact_bytes}
use Rattle.index_rules.specs.Maps.{Bytes}
use Rattle.index_rules.specs.Tables.{Tables}
use Rattle.index_rules.proofs.KeyLemmas.{get-change_values}
use Rattle.index_volume.specs.Places.{bytes_at, place_at, place_size}
use Rattle.index_volume.specs.Volume.{Keeps}
use Rattle.index_volume.proofs.FileLemmas.{same_place}
use Rattle.index_volume_books.specs.Over.{Fits, LeavesBoth, over}

-- volumes that agree below the end have the same bytes at places that fit
pub over_same : (end : ℕ) (c d : List ℕ) (T : Tables) → Fits end T → take end c ≡ take end d
    → over c T ≡ over d T
over_same end c d T fits same =
    ap (λ m. record T { bodies = m }) (same_map nat_list_cmp_total exact_bytes _ _ at)
  where
    below : (place : Bytes) (q : Bytes) → get T.bodies q ≡ Some place
        → bytes_at c place ≡ bytes_at d place
    below place q e =
        same_place end (place_at place) (place_size place) c d (fits q place e).within same

    by : (q : Bytes) (found : Option Bytes) → get T.bodies q ≡ found
        → option_map (bytes_at c) found ≡ option_map (bytes_at d) found
    by q None e = refl
    by q (Some place) e = ap Some (below place q e)

    at : (q : Bytes) → get (over c T).bodies q ≡ get (over d T).bodies q
    at q =
        get-change_values (bytes_at c) T.bodies q ∙ by q (get T.bodies q) refl
        ∙ sym (get-change_values (bytes_at d) T.bodies q)

-- if a crash leaves one set of places, and what lies below the end, it leaves the tables as they
-- stand
pub settled_over : (end : ℕ) (volume : List ℕ) (places : Tables) (below : Tables → Type 0)
    (volume_leaves : List ℕ → Type 0) (T : Tables) → ((P : Tables) → below P → P ≡ places)
    → Fits end places → Keeps end volume volume_leaves → {is_clean : Bool}
    → LeavesBoth is_clean volume_leaves below T → T ≡ over volume places
settled_over end volume places below volume_leaves T only fits kept left =
    left.5 ∙ ap (over left.2) (only left.1 left.3)
    ∙ over_same end left.2 volume places fits (kept.left left.2 left.4)
