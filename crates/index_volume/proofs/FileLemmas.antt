-- What an append leaves of a file.
use Rattle.std.proofs.Common.{◌≡◌, ℕ, ◌+◌, ◌<◌, ◌≤◌, List, [], ◌∷◌, length, take, drop, refl, sym, ap, subst, ◌∙◌, arith}
use Rattle.std.proofs.lemmas.List.{length-take, length-take-le, length-drop, get_or-take, get_or-drop, ext_get_or, take-take, drop-take}
use Rattle.sqlite_disk.specs.Disk.{Holds, Torn, Follows, Only}
use Rattle.index_volume.specs.Volume.{Keeps}

-- a write at `end` or beyond leaves what lies below
pub front_torn : (end n : ℕ) (old new : List ℕ) → end ≤ length old → Torn end n old new → take end new ≡ take end old
front_torn end n old new within torn =
    let long : end ≤ length new = omega (arith, torn.no_shorter, within) in
    ext_get_or 0 (take end new) (take end old) (length-take-le end new long ∙ sym (length-take-le end old within))
    (λ i low.
    let low : i < end = omega (arith, low, length-take-le end new long) in
    get_or-take end new i 0 low ∙ torn.below i (omega (arith, low, within)) low ∙ sym (get_or-take end old i 0 low))

-- a file with the same front is as long as that
pub front_long : (end : ℕ) (c volume : List ℕ) → end ≤ length volume → take end c ≡ take end volume → end ≤ length c
front_long end c volume within same = omega (arith, length-take end c, length-take-le end volume within, ap length same)

-- what was written is read
pub held_taken : (at : ℕ) (bytes file : List ℕ) → Holds file at bytes → take (length bytes) (drop at file) ≡ bytes
held_taken at bytes file holds =
    let long : length bytes ≤ length (drop at file) = omega (arith, length-drop at file, holds.within) in
    ext_get_or 0 (take (length bytes) (drop at file)) bytes (length-take-le (length bytes) (drop at file) long)
    (λ i low.
    let low : i < length bytes = omega (arith, low, length-take-le (length bytes) (drop at file) long) in
    get_or-take (length bytes) (drop at file) i 0 low ∙ get_or-drop at file i 0 ∙ holds.each i low)

-- what was written is read, also if it is nothing
pub added_taken : (at : ℕ) (bytes file : List ℕ) → (0 < length bytes → Holds file at bytes) → take (length bytes) (drop at file) ≡ bytes
added_taken at [] file holds = refl
added_taken at (x ∷ bytes) file holds = held_taken at (x ∷ bytes) file (holds (omega arith))

-- and the file is as long
pub added_long : (at : ℕ) (bytes old file : List ℕ) → at ≤ length old → Torn at (length bytes) old file
    → (0 < length bytes → Holds file at bytes) → at + length bytes ≤ length file
added_long at [] old file within torn holds = omega (arith, torn.no_shorter, within)
added_long at (x ∷ bytes) old file within torn holds = (holds (omega arith)).within

-- after a write at the end, a crash leaves what lies below
pub kept_torn : (end n : ℕ) (old new : List ℕ) (before after : List ℕ → Type 0) → Keeps end old before → Torn end n old new
    → Follows (Torn end n) before after → Keeps end new after
kept_torn end n old new before after kept torn follows =
    let front : take end new ≡ take end old = front_torn end n old new kept.long torn in
    record {
      long = omega (arith, torn.no_shorter, kept.long);
      left = λ c leaves.
          let from = follows c leaves in
          let same : take end from.0 ≡ take end old = kept.left from.0 from.1 in
          front_torn end n from.0 c (front_long end from.0 old kept.long same) from.2 ∙ same ∙ sym front;
    }

-- a file that is all that a crash leaves keeps all that lies within it
pub kept_only : (end : ℕ) (file : List ℕ) (leaves : List ℕ → Type 0) → end ≤ length file → Only file leaves → Keeps end file leaves
kept_only end file leaves within only = record { long = within; left = λ c left. ap (take end) (only c left) }

-- fewer outcomes keep as much
pub kept_fewer : (end : ℕ) (file : List ℕ) (before after : List ℕ → Type 0) → Keeps end file before → ((c : List ℕ) → after c → before c)
    → Keeps end file after
kept_fewer end file before after kept fewer = record { long = kept.long; left = λ c left. kept.left c (fewer c left) }

-- what lies at a place below the end is the same if the fronts are
pub same_place : (end at size : ℕ) (c d : List ℕ) → at + size ≤ end → take end c ≡ take end d
    → take size (drop at c) ≡ take size (drop at d)
same_place end at size c d within same =
    sym (drop-take at size c)
    ∙ ap (drop at) (sym (take-take (at + size) end c within) ∙ ap (take (at + size)) same ∙ take-take (at + size) end d within)
    ∙ drop-take at size d

-- a file that reads the same, of which a crash leaves no more, keeps as much
pub kept_moved : (end : ℕ) (old new : List ℕ) (before after : List ℕ → Type 0) → Keeps end old before → new ≡ old
    → ((c : List ℕ) → after c → before c) → Keeps end new after
kept_moved end old new before after kept is fewer = record {
  long = subst (λ s. end ≤ length s) (sym is) kept.long;
  left = λ c left. kept.left c (fewer c left) ∙ ap (take end) (sym is);
}
