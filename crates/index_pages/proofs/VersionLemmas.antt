-- The versions of a page: each release at its place makes a list that rises strictly and has exactly the releases.
use Rattle.index_pages.proofs.Words.{◌≡◌, Bool, true, false, ◌||◌, List, [], ◌∷◌, refl, sym, ap, ◌∙◌, AllByRecursion, list_any, Bytes}
use Rattle.index_pages.proofs.Words.{FileRow, with_release}
use Rattle.std.specs.declared.cmp.Ordering.{Ordering}
use Rattle.std.specs.declared.cmp.Ordering.TheVariants.{Less, Equal, Greater}
use Rattle.std.specs.Ordering.{match_ordering, ordering_reverse}
use Rattle.std.specs.List.Sorted.{IsStrictlySortedBy}
use Rattle.std.proofs.lemmas.Cmp.{nat_list_cmp_total}
use Rattle.std.proofs.lemmas.Map.Lookups.{exact_bytes}
use Rattle.index_rules.specs.Maps.{bytes_cmp, same}
use Rattle.index_pages.specs.Versions.{with_releases, ListsReleases}

-- ---- the order

abbrev pub Above : Bytes → List Bytes → Type 0
Above low releases = AllByRecursion (λ release. bytes_cmp low release ≡ Less) releases

above_lower : (low mid : Bytes) (releases : List Bytes) → bytes_cmp low mid ≡ Less → Above mid releases → Above low releases
above_lower low mid [] less above = tt
above_lower low mid (release ∷ releases) less above =
    (nat_list_cmp_total.trans low mid release less above.0, above_lower low mid releases less above.1)

above_by : (o : Ordering) (low release : Bytes) (held : List Bytes) (x : Bytes) → bytes_cmp low release ≡ Less → Above low (x ∷ held)
    → Above low (with_release held release)
    → Above low (match_ordering o (release ∷ x ∷ held) (x ∷ held) (x ∷ with_release held release))
above_by Less low release held x less above later = (less, above)
above_by Equal low release held x less above later = above
above_by Greater low release held x less above later = (above.0, later)

above-with : (low release : Bytes) (held : List Bytes) → bytes_cmp low release ≡ Less → Above low held
    → Above low (with_release held release)
above-with low release [] less above = (less, tt)
above-with low release (x ∷ held) less above =
    above_by (bytes_cmp release x) low release held x less above (above-with low release held less above.1)

flipped : (a b : Bytes) → bytes_cmp a b ≡ Greater → bytes_cmp b a ≡ Less
flipped a b greater = nat_list_cmp_total.antisymm b a ∙ ap ordering_reverse greater

rising_by : (o : Ordering) (release x : Bytes) (held : List Bytes) → bytes_cmp release x ≡ o → IsStrictlySortedBy bytes_cmp (x ∷ held)
    → IsStrictlySortedBy bytes_cmp (with_release held release)
    → IsStrictlySortedBy bytes_cmp (match_ordering o (release ∷ x ∷ held) (x ∷ held) (x ∷ with_release held release))
unfolding IsStrictlySortedBy
rising_by Less release x held is rising later = ((is, above_lower release x held is rising.0), rising)
rising_by Equal release x held is rising later = rising
rising_by Greater release x held is rising later = (above-with x release held (flipped release x is) rising.0, later)

rising-with : (held : List Bytes) (release : Bytes) → IsStrictlySortedBy bytes_cmp held
    → IsStrictlySortedBy bytes_cmp (with_release held release)
unfolding IsStrictlySortedBy
rising-with [] release rising = (tt, tt)
rising-with (x ∷ held) release rising = rising_by (bytes_cmp release x) release x held refl rising (rising-with held release rising.1)

rising-after : (held : List Bytes) (rows : List FileRow) → IsStrictlySortedBy bytes_cmp held
    → IsStrictlySortedBy bytes_cmp (with_releases held rows)
rising-after held [] rising = rising
rising-after held (row ∷ rows) rising = rising-after (with_release held row.release) rows (rising-with held row.release rising)

-- ---- the releases

or-twice : (a b : Bool) → (a || b) ≡ (a || (a || b))
or-twice true b = refl
or-twice false b = refl

or-swap : (a b c : Bool) → (a || (b || c)) ≡ (b || (a || c))
or-swap true true c = refl
or-swap true false c = refl
or-swap false b c = refl

or-false : (a : Bool) → a ≡ (a || false)
or-false true = refl
or-false false = refl

or-third : (a b c : Bool) → ((a || b) || c) ≡ (b || (a || c))
or-third true true c = refl
or-third true false c = refl
or-third false b c = refl

has_by : (o : Ordering) (asked release x : Bytes) (held : List Bytes) → bytes_cmp release x ≡ o
    → list_any (same asked) (with_release held release) ≡ (same asked release || list_any (same asked) held)
    → list_any (same asked) (match_ordering o (release ∷ x ∷ held) (x ∷ held) (x ∷ with_release held release))
    ≡ (same asked release || list_any (same asked) (x ∷ held))
has_by Less asked release x held is later = refl
has_by Equal asked release x held is later =
    or-twice (same asked x) (list_any (same asked) held)
    ∙ ap (λ y. same asked y || list_any (same asked) (x ∷ held)) (sym (exact_bytes release x is))
has_by Greater asked release x held is later =
    ap (λ b. same asked x || b) later ∙ or-swap (same asked x) (same asked release) (list_any (same asked) held)

has-with : (asked release : Bytes) (held : List Bytes)
    → list_any (same asked) (with_release held release) ≡ (same asked release || list_any (same asked) held)
has-with asked release [] = refl
has-with asked release (x ∷ held) = has_by (bytes_cmp release x) asked release x held refl (has-with asked release held)

has-after : (asked : Bytes) (held : List Bytes) (rows : List FileRow)
    → list_any (same asked) (with_releases held rows) ≡ (list_any (same asked) held || list_any (λ row. same asked row.release) rows)
has-after asked held [] = or-false (list_any (same asked) held)
has-after asked held (row ∷ rows) =
    has-after asked (with_release held row.release) rows
    ∙ ap (λ b. b || list_any (λ row. same asked row.release) rows) (has-with asked row.release held)
    ∙ or-third (same asked row.release) (list_any (same asked) held) (list_any (λ row. same asked row.release) rows)

pub lists_releases : (rows : List FileRow) → ListsReleases rows
unfolding IsStrictlySortedBy
lists_releases rows = record { rising = rising-after [] rows tt; exact = λ release. has-after release [] rows }
