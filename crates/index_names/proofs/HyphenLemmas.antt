-- Where a text is cut at its hyphens.
use Rattle.std.proofs.Common.{◌≡◌, ◌≢◌, ℕ, ◌+◌, ◌-◌, ◌<◌, ◌≤◌, Bool, true, false, not, List, [], ◌∷◌, ◌++◌, length, get_or, take, drop, Bor}
use Rattle.std.proofs.Common.{Option, Some, None, All, inl, inr, ◌⊎◌, sym, ap, ◌∙◌, refl, arith, length-append}
use Rattle.std.specs.Option.{MatchOption, is_some}
use Rattle.std.specs.List.{list_all, list_any, suffix_len, before_last, after_last, slice_split, onto_first, join_with_byte, AllByRecursion}
use Rattle.std.proofs.Math.Seq.{take-append_seam, drop-append-add, get_or-append_seam}
use Rattle.std.proofs.lemmas.Bool.{false≢true, and_parts, cases_Bool, eq-eqb, ne_eqb, eqb-true, eqb-false, not_from_false, not_from_true}
use Rattle.std.proofs.lemmas.List.{get_or-append-add, take-append-drop, drop_more, length-take-le, get_or-take}
use Rattle.std.proofs.lemmas.List.Elements.{All-nil, All-cons, All-get_or, All-from_get_or}
use Rattle.std.proofs.lemmas.List.Folds.{list_any_at, list_any_none}
use Rattle.std.proofs.lemmas.List.Splits.{slice_split_at, slice_split_none, slice_split-cons_yes, slice_split-cons_no}
use Rattle.std.proofs.lemmas.List.Sums.{suffix_len_is}
use Rattle.index_names.specs.Spelling.{is_hyphen}

-- no hyphen stands from this index on
abbrev pub LacksHyphenFrom : List ℕ → ℕ → Type 0
LacksHyphenFrom x i = (k : ℕ) → i ≤ k → k < length x → get_or x k 0 ≢ 45

suffix_len-lacking : (x : List ℕ) (i : ℕ) → i ≤ length x → (0 < i → get_or x (i - 1) 0 ≡ 45) → LacksHyphenFrom x i
    → suffix_len (λ c. not (is_hyphen c)) x ≡ length x - i
suffix_len-lacking x i within hyphen lacks =
    suffix_len_is (λ c. not (is_hyphen c)) x i 0 within
    (λ k above inside. not_from_false _ (ne_eqb _ 45 (lacks k above inside)))
    (λ positive. not_from_true _ (eq-eqb _ 45 (hyphen positive)))

-- behind the hyphen at i there is no other
pub before_last-at : (x : List ℕ) (i : ℕ) → i < length x → get_or x i 0 ≡ 45 → LacksHyphenFrom x (i + 1)
    → before_last is_hyphen x ≡ take i x
before_last-at x i within hyphen lacks =
    let cut : suffix_len (λ c. not (is_hyphen c)) x ≡ length x - (i + 1) =
    suffix_len-lacking x (i + 1) (omega arith) (λ _. ap (λ k. get_or x k 0) (omega arith) ∙ hyphen) lacks in
    ap (λ n. take (length x - n - 1) x) cut ∙ ap (λ n. take n x) (omega arith)

pub after_last-at : (x : List ℕ) (i : ℕ) → i < length x → get_or x i 0 ≡ 45 → LacksHyphenFrom x (i + 1)
    → after_last is_hyphen x ≡ drop (i + 1) x
after_last-at x i within hyphen lacks =
    let cut : suffix_len (λ c. not (is_hyphen c)) x ≡ length x - (i + 1) =
    suffix_len-lacking x (i + 1) (omega arith) (λ _. ap (λ k. get_or x k 0) (omega arith) ∙ hyphen) lacks in
    ap (λ n. drop (length x - n) x) cut ∙ ap (λ n. drop n x) (omega arith)

-- a text that lacks hyphens from its first byte on has none
pub list_any-none : (x : List ℕ) → LacksHyphenFrom x 0 → list_any is_hyphen x ≡ false
list_any-none x lacks =
    list_any_none is_hyphen x (All-from_get_or (λ c. is_hyphen c ≡ false) x 0 (λ k inside. ne_eqb _ 45 (lacks k (omega arith) inside)))

-- with no hyphen nothing stands before it
pub before_last_without : (x : List ℕ) → list_any is_hyphen x ≡ false → before_last is_hyphen x ≡ []
before_last_without x none =
    let lacks : LacksHyphenFrom x 0 = λ k above inside hyphen. false≢true
    (sym none ∙ list_any_at is_hyphen x k 0 inside (eq-eqb _ 45 hyphen)) in
    let cut : suffix_len (λ c. not (is_hyphen c)) x ≡ length x - 0 =
    suffix_len-lacking x 0 (omega arith) (λ positive. absurd (omega arith)) lacks in
    let left : length x - (length x - 0) - 1 ≡ 0 = omega arith in
    ap (λ n. take (length x - n - 1) x) cut ∙ ap (λ n. take n x) left

abbrev pub LacksHyphen : List ℕ → Type 0
LacksHyphen x = All (λ c. is_hyphen c ≡ false) x

pub LacksHyphen-list_all : (p : ℕ → Bool) → ((c : ℕ) → p c ≡ true → is_hyphen c ≡ false) → (x : List ℕ) → list_all p x ≡ true
    → LacksHyphen x
LacksHyphen-list_all p apart [] passes = All-nil (λ c. is_hyphen c ≡ false)
LacksHyphen-list_all p apart (c ∷ x) passes =
    let parts = and_parts (p c) (list_all p x) passes in
    All-cons (λ b. is_hyphen b ≡ false) c x (apart c parts.0) (LacksHyphen-list_all p apart x parts.1)

LacksHyphenFrom-split : (front back : List ℕ) → LacksHyphen back → LacksHyphenFrom (front ++ 45 ∷ back) (length front + 1)
LacksHyphenFrom-split front back lacks k above inside =
    let j : ℕ = k - (length front + 1) in
    let is : k ≡ length front + (j + 1) = omega arith in
    let within : j < length back = omega (arith, length-append front (45 ∷ back)) in
    let read : get_or (front ++ 45 ∷ back) k 0 ≡ get_or back j 0 =
    ap (λ n. get_or (front ++ 45 ∷ back) n 0) is ∙ get_or-append-add front (45 ∷ back) (j + 1) 0 ∙ search arith in
    λ e. eqb-false _ 45 (All-get_or (λ c. is_hyphen c ≡ false) back j 0 within lacks) (sym read ∙ e)

pub before_last-split : (front back : List ℕ) → LacksHyphen back → before_last is_hyphen (front ++ 45 ∷ back) ≡ front
before_last-split front back lacks =
    before_last-at (front ++ 45 ∷ back) (length front) (omega (arith, length-append front (45 ∷ back))) (get_or-append_seam front 45 back 0)
    (LacksHyphenFrom-split front back lacks)
    ∙ take-append_seam front (45 ∷ back)

pub after_last-split : (front back : List ℕ) → LacksHyphen back → after_last is_hyphen (front ++ 45 ∷ back) ≡ back
after_last-split front back lacks =
    after_last-at (front ++ 45 ∷ back) (length front) (omega (arith, length-append front (45 ∷ back))) (get_or-append_seam front 45 back 0)
    (LacksHyphenFrom-split front back lacks)
    ∙ drop-append-add front (45 ∷ back) 1

-- a text that is cut at its last hyphen
pub record IsCutAtLast (x : List ℕ) : Type 0 where
  pub front : List ℕ
  pub back : List ℕ
  pub is : x ≡ front ++ 45 ∷ back
  pub lacks : LacksHyphen back

pub last_hyphen : (x : List ℕ) → LacksHyphen x ⊎ IsCutAtLast x
last_hyphen [] = inl (All-nil (λ c. is_hyphen c ≡ false))
last_hyphen (c ∷ x) = elim (last_hyphen x) [
  | inl lacks ↦ elim (cases_Bool (is_hyphen c)) [
    | inl hyphen ↦ inr (record { front = []; back = x; is = ap (λ b. b ∷ x) (eqb-true c 45 hyphen); lacks = lacks })
    | inr other ↦ inl (All-cons (λ b. is_hyphen b ≡ false) c x other lacks)
  ]
  | inr cut ↦ inr (record { front = c ∷ cut.front; back = cut.back; is = ap (λ y. c ∷ y) cut.is; lacks = cut.lacks })
]

-- if something stands before the last hyphen, the text is that, the hyphen and what stands after it
pub join-last : (x : List ℕ) → before_last is_hyphen x ≢ [] → x ≡ before_last is_hyphen x ++ 45 ∷ after_last is_hyphen x
join-last x something = elim (last_hyphen x) [
  | inl lacks ↦ absurd (something (before_last_without x (list_any_none is_hyphen x lacks)))
  | inr cut ↦
      let before : before_last is_hyphen x ≡ cut.front =
      ap (before_last is_hyphen) cut.is ∙ before_last-split cut.front cut.back cut.lacks in
      let after : after_last is_hyphen x ≡ cut.back = ap (after_last is_hyphen) cut.is ∙ after_last-split cut.front cut.back cut.lacks in
      cut.is ∙ sym (λ i. before i ++ 45 ∷ after i)
]

-- the part before the first hyphen, which stands at i
pub slice_split-at : (x : List ℕ) (i : ℕ) → i < length x → get_or x i 0 ≡ 45 → ((k : ℕ) → k < i → get_or x k 0 ≢ 45)
    → slice_split is_hyphen x ≡ take i x ∷ slice_split is_hyphen (drop (i + 1) x)
slice_split-at x i within hyphen lacks =
    let around : x ≡ take i x ++ 45 ∷ drop (i + 1) x =
    sym (take-append-drop i x) ∙ ap (λ y. take i x ++ y) (drop_more x i 0 within ∙ ap (λ b. b ∷ drop (i + 1) x) hyphen) in
    let before : LacksHyphen (take i x) =
    All-from_get_or (λ c. is_hyphen c ≡ false) (take i x) 0 (λ k inside.
    let below : k < i = omega (arith, length-take-le i x (omega arith)) in
    ap is_hyphen (get_or-take i x k 0 below) ∙ ne_eqb _ 45 (lacks k below)) in
    ap (slice_split is_hyphen) around ∙ slice_split_at is_hyphen (take i x) 45 (drop (i + 1) x) before refl

pub slice_split-lacking : (x : List ℕ) → LacksHyphenFrom x 0 → slice_split is_hyphen x ≡ x ∷ []
slice_split-lacking x lacks =
    slice_split_none is_hyphen x (All-from_get_or (λ c. is_hyphen c ≡ false) x 0 (λ k inside. ne_eqb _ 45 (lacks k (omega arith) inside)))

-- there is a first part
pub record HasFirstPart (x : List ℕ) : Type 0 where
  pub first : List ℕ
  pub more : List (List ℕ)
  pub is : slice_split is_hyphen x ≡ first ∷ more

pub first_part : (x : List ℕ) → HasFirstPart x
first_part [] = record { first = []; more = []; is = refl }
first_part (c ∷ x) =
    let rest = first_part x in
    elim (cases_Bool (is_hyphen c)) [
      | inl hyphen ↦ record { first = []; more = slice_split is_hyphen x; is = slice_split-cons_yes is_hyphen c x hyphen }
      | inr other ↦ record {
        first = c ∷ rest.first;
        more = rest.more;
        is = slice_split-cons_no is_hyphen c x other ∙ ap (onto_first c) rest.is;
      }
    ]

-- parts without a hyphen that are joined by hyphens are found again
pub slice_split-join : (part : List ℕ) (parts : List (List ℕ)) → AllByRecursion LacksHyphen (part ∷ parts)
    → slice_split is_hyphen (join_with_byte 45 (part ∷ parts)) ≡ part ∷ parts
slice_split-join part [] lacking = slice_split_none is_hyphen part lacking.0
slice_split-join part (next ∷ parts) lacking =
    slice_split_at is_hyphen part 45 (join_with_byte 45 (next ∷ parts)) lacking.0 refl
    ∙ ap (λ found. part ∷ found) (slice_split-join next parts lacking.1)

-- the parts of a text that was cut at its first hyphen
pub record IsCutAtFirst (x : List ℕ) : Type 0 where
  pub front : List ℕ
  pub back : List ℕ
  pub is : slice_split is_hyphen x ≡ front ∷ slice_split is_hyphen back

pub cut_at_first : (x : List ℕ) (r : Option (Bor (List ℕ) × Bor (List ℕ)))
    → MatchOption r (slice_split is_hyphen x ≡ x ∷ []) (λ parts. slice_split is_hyphen x ≡ parts.0.now ∷ slice_split is_hyphen parts.1.now)
    → is_some r ≡ true → IsCutAtFirst x
cut_at_first x None clause found = absurd (false≢true found)
cut_at_first x (Some parts) clause found = record { front = parts.0.now; back = parts.1.now; is = clause }
