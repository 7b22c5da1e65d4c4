-- An index in two files and a volume is found again, and a close leaves it there.
use Rattle.index.proofs.Words.{◌≡◌, ◌∙◌, ap, inl, inr, None, Some, sym, subst, ℕ, ◌≤◌, List, length, take, get, ∥∥₁_elim, FileStore}
use Rattle.index.proofs.Words.{HoldsAlone, IsCopied, Database, file_state, Held, Image, Ghosts, Files, Trees-set, first_tables, Bytes}
use Rattle.index.proofs.Words.{Tables, tables_in, IsCommitted, IsCurrent, Fits, over, HoldsPlaced, HoldsPlacedAlone, IsNextPair, IsNextOf}
use Rattle.index.proofs.Words.{Pair, in_volume, FindsAgain, HoldsNone}
use Rattle.std.proofs.Common.{option_map}
use Rattle.std.specs.FinMap.{empty, get-empty, same_map}
use Rattle.std.proofs.lemmas.Cmp.{nat_list_cmp_total}
use Rattle.std.proofs.lemmas.Map.Lookups.{exact_bytes}
use Rattle.index_rules.specs.Maps.{Map, bytes_cmp}
use Rattle.index_rules.proofs.KeyLemmas.{get-change_values}
use Rattle.index_volume.specs.Places.{bytes_at}
use Rattle.index_volume.specs.Volume.{Keeps}
use Rattle.index_volume.proofs.FileLemmas.{front_long}
use Rattle.index_volume_books.specs.OverLaws.{over_same}
use Rattle.index_volume_books.proofs.ThroughLemmas.{fits_more}
use Rattle.index.specs.InVolume.{AreWhole}
use Rattle.index.proofs.ThereLemmas.{no_proof, not_current}

-- one database has one set of places
same_places : (db other : Database) (P Q : Tables) → IsCurrent 3 db P → IsCurrent 3 other Q → other.trees ≡ db.trees → Q ≡ P
same_places db other P Q one two same = two.tables ∙ ap tables_in same ∙ sym one.tables

found_same : (pair : Pair) (T found : Tables) → HoldsPlacedAlone pair T → HoldsPlaced pair found → found ≡ T
found_same pair T found held it = it.within.whole ∙ ap (over pair.volume) places ∙ sym held.within.whole
  where
    trees : it.db.trees ≡ held.db.trees
    trees = ∥∥₁_elim held.held.both (Trees-set _ _) (it.only.alone held.db.trees)

    places : it.places ≡ held.places
    places = same_places held.db it.db held.places it.places held.current it.current trees

is_there : (pair : Pair) (T : Tables) → HoldsPlacedAlone pair T → ¬ HoldsNone pair.image
is_there pair T it none = ∥∥₁_elim it.held.both no_proof
    (λ held. not_current 3 none it.db it.places (none.only.alone it.db.trees held) it.current)

-- two files and a volume hold one index
pub found_in_volume : FindsAgain in_volume
found_in_volume = record { same = found_same; there = is_there }

-- what lies below the end is enough
whole_left : (end : ℕ) (volume c : List ℕ) (places : Tables) → end ≤ length volume → Fits end places → take end c ≡ take end volume
    → AreWhole c places (over volume places)
whole_left end volume c places within fits same = record {
  fits = fits_more end (length c) places (front_long end c volume within same) fits;
  whole = sym (over_same end c volume places fits same);
}

-- files that were closed leave the last commit to the next run
pub image_to_next : {D : Type 0} {g : Ghosts D} (last : Held (FileStore D g)) (files : Files D) → IsCopied last files
    → (file_state last).now ≡ (file_state last).committed → (next : Image) → IsNextOf g files next
    → HoldsAlone next (file_state last).now.trees
image_to_next last files copied committed next is =
    subst (λ (x : Database). HoldsAlone next x.trees) (sym committed) (elim is [
      | inl now ↦ subst (λ (image : Image). HoldsAlone image (file_state last).committed.trees) (sym now) copied.seen
      | inr later ↦ copied.left next later
    ])

-- files that were closed, and a volume, leave the tables of the books to it
pub left_to_next : {D E : Type 0} {g : Ghosts D} (e : Ghosts E) (last : Held (FileStore D g)) (files : Files D) (disk : E)
    (places : Tables) (end : ℕ) → IsCopied last files → IsCommitted 3 (file_state last) places → Fits end places
    → Keeps end (e.seen disk) (e.may_leave disk) → (next : Pair) → IsNextPair g e files disk next
    → HoldsPlacedAlone next (over (e.seen disk) places)
left_to_next e last files disk places end copied committed fits keeps next is = record {
  db = (file_state last).now;
  places = places;
  current = committed.current;
  held = image_to_next last files copied committed.committed next.image is.image;
  within = whole_left end (e.seen disk) next.volume places keeps.long fits front;
}
  where
    front : take end next.volume ≡ take end (e.seen disk)
    front = elim is.volume [ inl now ↦ ap (take end) now | inr later ↦ keeps.left next.volume later ]

-- the tables of a new index have no places, so any volume has their bytes
pub no_places : (volume : List ℕ) (user token : Bytes) → AreWhole volume (first_tables user token) (first_tables user token)
no_places volume user token = record {
  fits = λ file place at. absurd (let both : None ≡ Some place = sym (get-empty bytes_cmp file) ∙ at in cc);
  whole = ap (λ (m : Map Bytes). record (first_tables user token) { bodies = m }) (same_map nat_list_cmp_total exact_bytes _ _ at);
}
  where
    at : (file : Bytes) → get (first_tables user token).bodies file ≡ get (over volume (first_tables user token)).bodies file
    at file = get-empty bytes_cmp file
        ∙ sym (get-change_values (bytes_at volume) empty file ∙ ap (option_map (bytes_at volume)) (get-empty bytes_cmp file))
