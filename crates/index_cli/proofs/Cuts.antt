-- Where an input is cut into lines.
use Rattle.index_cli.proofs.Words.{◌≡◌, ◌≢◌, ℕ, ◌+◌, ◌<◌, ◌≤◌, ◌⊎◌, inl, inr, List, [], ◌∷◌, ◌++◌, length, take, Option, Some, None, Bool}
use Rattle.index_cli.proofs.Words.{true, false, nat_lt, cond, refl, sym, ap, ◌∙◌, arith, ne_eqb, append-nil, append_assoc, length-append}
use Rattle.index_cli.proofs.Words.{take_all, Consumes, IsAtEnd, IsInput, Charges, PartIsTaken, TakesLine, line_feed, longest_line}
use Rattle.std.specs.List.{All}
use Rattle.std.proofs.KnownBytes.{Consumes-nil, Consumes-trans}
use Rattle.std.proofs.lemmas.List.{take-append-le}
use Rattle.std.proofs.lemmas.List.Elements.{All-head, All-nil, All-push, All-tail}
use Rattle.index_cli.specs.Lines.{HasNoFeed, IsFrontOfLine, TakesLines, TakesLinesAndPart, TakesOneLine}
use Rattle.index_cli.specs.Lines.{lines_of, onto_first}

-- ---- the lines of what begins with a line

lines_of-feed : (line rest : List ℕ) → HasNoFeed line → lines_of (line ++ line_feed ∷ rest) ≡ line ∷ lines_of rest
lines_of-feed [] rest plain = refl
lines_of-feed (byte ∷ line) rest plain =
    ap (λ b. cond b ([] ∷ lines_of (line ++ line_feed ∷ rest)) (onto_first byte (lines_of (line ++ line_feed ∷ rest))))
    (ne_eqb byte line_feed (plain 0 0 (omega arith)))
    ∙ ap (onto_first byte) (lines_of-feed line rest (All-tail (λ x. x ≢ line_feed) byte line plain))

lines_of-end : (line : List ℕ) → 0 < length line → HasNoFeed line → lines_of line ≡ line ∷ []
lines_of-end [] some plain = absurd (omega arith)
lines_of-end (byte ∷ []) some plain = ap (λ b. cond b ([] ∷ []) ((byte ∷ []) ∷ [])) (ne_eqb byte line_feed (plain 0 0 (omega arith)))
lines_of-end (byte ∷ next ∷ line) some plain =
    ap (λ b. cond b ([] ∷ lines_of (next ∷ line)) (onto_first byte (lines_of (next ∷ line))))
    (ne_eqb byte line_feed (plain 0 0 (omega arith)))
    ∙ ap (onto_first byte) (lines_of-end (next ∷ line) (omega arith) (All-tail (λ x. x ≢ line_feed) byte (next ∷ line) plain))

-- ---- a line that grows by a byte

-- the bytes of a line so far
pub record Grows (old new : Option (List ℕ)) (size : ℕ) (kept : List ℕ) : Type 0 where
  pub line : List ℕ
  pub is : IsFrontOfLine size kept line
  pub taken : Consumes old new line

below_or : (n m : ℕ) → (n < m) ⊎ (m ≤ n)
below_or n m = go (nat_lt n m) refl
  where
    go : (b : Bool) → nat_lt n m ≡ b → (n < m) ⊎ (m ≤ n)
    go true e = inl (grind (arith, e))
    go false e = inr (grind (arith, e))

pub Grows-push : (a b c : Option (List ℕ)) (size byte : ℕ) (kept kept' : List ℕ) → Grows a b size kept → Consumes b c (byte ∷ [])
    → byte ≢ line_feed
    → (size < longest_line → kept' ≡ kept ++ byte ∷ []) → (longest_line ≤ size → kept' ≡ kept) → Grows a c (size + 1) kept'
Grows-push a b c size byte kept kept' grows next other near far = record {
  line = grows.line ++ byte ∷ [];
  is = record {
    plain = All-push (λ x. x ≢ line_feed) grows.line byte grows.is.plain other;
    sized = omega (arith, length-append grows.line (byte ∷ []), grows.is.sized);
    front = front_of (below_or size longest_line);
  };
  taken = Consumes-trans a b c _ _ grows.taken next;
}
  where
    front_of : (size < longest_line) ⊎ (longest_line ≤ size) → kept' ≡ take longest_line (grows.line ++ byte ∷ [])
    front_of (inl h) =
        near h ∙ ap (λ l. l ++ byte ∷ []) (grows.is.front ∙ take_all longest_line grows.line (omega (arith, grows.is.sized)))
        ∙ sym (take_all longest_line (grows.line ++ byte ∷ []) (omega (arith, length-append grows.line (byte ∷ []), grows.is.sized)))
    front_of (inr h) = far h ∙ grows.is.front ∙ sym (take-append-le longest_line grows.line (byte ∷ []) (omega (arith, grows.is.sized)))

pub Grows-feed : (a b c : Option (List ℕ)) (size : ℕ) (kept : List ℕ) → Grows a b size kept → Consumes b c (line_feed ∷ [])
    → TakesLine (Some size) kept a c
Grows-feed a b c size kept grows feed = (grows.line, grows.is, inl (Consumes-trans a b c _ _ grows.taken feed))

pub Grows-end : (a b c : Option (List ℕ)) (size : ℕ) (kept : List ℕ) → Grows a b size kept → 0 < size → Consumes b c [] → IsAtEnd c
    → TakesLine (Some size) kept a c
Grows-end a b c size kept grows some taken end =
    (grows.line, grows.is, inr (omega (arith, grows.is.sized), rw append-nil at (Consumes-trans a b c _ _ grows.taken taken), end))

abbrev with_feeds : List (List ℕ) → List ℕ
with_feeds [] = []
with_feeds (line ∷ lines) = line ++ line_feed ∷ with_feeds lines

lines_of-with_feeds : (lines : List (List ℕ)) → All HasNoFeed lines → lines_of (with_feeds lines) ≡ lines
lines_of-with_feeds [] plain = refl
lines_of-with_feeds (line ∷ lines) plain =
    lines_of-feed line (with_feeds lines) (All-head HasNoFeed line lines plain)
    ∙ ap (λ l. line ∷ l) (lines_of-with_feeds lines (All-tail HasNoFeed line lines plain))

-- the bytes of the line so far, and one more
pub Grows-byte : (a b c : Option (List ℕ)) (size byte : ℕ) (kept : List ℕ) → Grows a b size kept → Consumes b c (byte ∷ [])
    → (taken : List ℕ) × Consumes a c taken × (length taken ≡ size + 1)
Grows-byte a b c size byte kept grows next = (
  grows.line ++ byte ∷ [],
  Consumes-trans a b c _ _ grows.taken next,
  omega (arith, length-append grows.line (byte ∷ []), grows.is.sized),
)

-- none of them is a feed
pub Grows-part : (a b c : Option (List ℕ)) (size byte : ℕ) (kept : List ℕ) → Grows a b size kept → Consumes b c (byte ∷ [])
    → byte ≢ line_feed → PartIsTaken a c
Grows-part a b c size byte kept grows next other = (
  grows.line ++ byte ∷ [],
  All-push (λ x. x ≢ line_feed) grows.line byte grows.is.plain other,
  Consumes-trans a b c _ _ grows.taken next,
)

-- ---- lines that were taken from a known input

-- where an input is cut: the lines before, and what is left
pub record Cut (input rest : List ℕ) (lines : List (List ℕ)) : Type 0 where
  pub taken : List ℕ
  pub joins : input ≡ taken ++ rest
  pub split : lines_of taken ≡ lines
  pub whole : ((more : List ℕ) → lines_of (taken ++ more) ≡ lines ++ lines_of more) ⊎ (rest ≡ [])

-- one more line with its feed
cut_feed : (input rest left line : List ℕ) (lines : List (List ℕ)) → (cut : Cut input rest lines)
    → ((more : List ℕ) → lines_of (cut.taken ++ more) ≡ lines ++ lines_of more)
    → HasNoFeed line → rest ≡ (line ++ line_feed ∷ []) ++ left → Cut input left (lines ++ line ∷ [])
cut_feed input rest left line lines cut whole plain taken =
    let fed : List ℕ = line ++ line_feed ∷ [] in
    record {
      taken = cut.taken ++ fed;
      joins = cut.joins ∙ ap (λ l. cut.taken ++ l) taken ∙ sym (append_assoc cut.taken fed left);
      split = whole fed ∙ ap (λ l. lines ++ l) (lines_of-feed line [] plain);
      whole = inl (λ more.
          ap lines_of (append_assoc cut.taken fed more) ∙ whole (fed ++ more)
          ∙ ap (λ l. lines ++ lines_of l) (append_assoc line (line_feed ∷ []) more)
          ∙ ap (λ l. lines ++ l) (lines_of-feed line more plain)
          ∙ sym (append_assoc lines (line ∷ []) (lines_of more)));
    }

-- a last line without one
cut_end : (input rest left line : List ℕ) (lines : List (List ℕ)) → (cut : Cut input rest lines)
    → ((more : List ℕ) → lines_of (cut.taken ++ more) ≡ lines ++ lines_of more)
    → HasNoFeed line → 0 < length line → rest ≡ line ++ left → left ≡ [] → Cut input left (lines ++ line ∷ [])
cut_end input rest left line lines cut whole plain some taken end = record {
  taken = cut.taken ++ line;
  joins = cut.joins ∙ ap (λ l. cut.taken ++ l) taken ∙ sym (append_assoc cut.taken line left);
  split = whole line ∙ ap (λ l. lines ++ l) (lines_of-end line some plain);
  whole = inr end;
}

-- nothing is taken from nothing
none_taken : (rest taken left : List ℕ) → rest ≡ [] → rest ≡ taken ++ left → 0 < length taken → ⊥
none_taken rest taken left empty is some =
    let none : 0 ≡ length (taken ++ left) = ap length (sym empty ∙ is) in
    absurd (omega (arith, none, length-append taken left, some))

cut_push : (input rest left line : List ℕ) (lines : List (List ℕ)) → Cut input rest lines
    → HasNoFeed line → TakesOneLine line (Some rest) (Some left) → Cut input left (lines ++ line ∷ [])
cut_push input rest left line lines cut plain passes = go cut.whole passes
  where
    go : ((more : List ℕ) → lines_of (cut.taken ++ more) ≡ lines ++ lines_of more) ⊎ (rest ≡ [])
        → TakesOneLine line (Some rest) (Some left) → Cut input left (lines ++ line ∷ [])
    go (inl whole) (inl taken) = cut_feed input rest left line lines cut whole plain taken
    go (inl whole) (inr (some, taken, end)) = cut_end input rest left line lines cut whole plain some taken end
    go (inr empty) (inl taken) =
        absurd (none_taken rest (line ++ line_feed ∷ []) left empty taken (omega (arith, length-append line (line_feed ∷ []))))
    go (inr empty) (inr (some, taken, end)) = absurd (none_taken rest line left empty taken some)

cut_lines : (input rest : List ℕ) (lines : List (List ℕ)) → Cut input rest lines → lines_of input ≡ lines ++ lines_of rest
cut_lines input rest lines cut = go cut.whole
  where
    go : ((more : List ℕ) → lines_of (cut.taken ++ more) ≡ lines ++ lines_of more) ⊎ (rest ≡ [])
        → lines_of input ≡ lines ++ lines_of rest
    go (inl whole) = ap lines_of cut.joins ∙ whole rest
    go (inr empty) =
        ap lines_of (cut.joins ∙ ap (λ l. cut.taken ++ l) empty ∙ append-nil cut.taken) ∙ cut.split
        ∙ sym (append-nil lines) ∙ ap (λ l. lines ++ lines_of l) (sym empty)

-- ---- lines that were taken from a reader

-- the lines so far: what the reader tells of its input begins with them
abbrev pub Cuts : Option (List ℕ) → Option (List ℕ) → List (List ℕ) → Type 0
Cuts None new lines = All HasNoFeed lines
Cuts (Some input) None lines = ⊥
Cuts (Some input) (Some rest) lines = Cut input rest lines

pub Cuts-nil : (a : Option (List ℕ)) → Cuts a a []
Cuts-nil None = All-nil HasNoFeed
Cuts-nil (Some input) = record { taken = []; joins = refl; split = refl; whole = inl (λ more. refl) }

no_pass : (rest line : List ℕ) → TakesOneLine line (Some rest) None → ⊥
no_pass rest line (inl taken) = taken
no_pass rest line (inr taken) = taken.1

-- one more line
pub Cuts-push : (a b c : Option (List ℕ)) (lines : List (List ℕ)) (line : List ℕ)
    → Cuts a b lines → HasNoFeed line → TakesOneLine line b c → Cuts a c (lines ++ line ∷ [])
Cuts-push None b c lines line cuts plain passes = All-push HasNoFeed lines line cuts plain
Cuts-push (Some input) None c lines line cuts plain passes = absurd cuts
Cuts-push (Some input) (Some rest) None lines line cuts plain passes = absurd (no_pass rest line passes)
Cuts-push (Some input) (Some rest) (Some left) lines line cuts plain passes =
    cut_push input rest left line lines cuts plain passes

-- some input that agrees with the reader begins with the lines so far
pub Cuts-input : (a b : Option (List ℕ)) (lines : List (List ℕ)) → Cuts a b lines
    → (input : List ℕ) × (left : List (List ℕ)) × IsInput a input × (lines_of input ≡ lines ++ left)
Cuts-input None b lines cuts = (with_feeds lines, [], tt, lines_of-with_feeds lines cuts ∙ sym (append-nil lines))
Cuts-input (Some input) None lines cuts = absurd cuts
Cuts-input (Some input) (Some rest) lines cuts = (input, lines_of rest, refl, cut_lines input rest lines cuts)

-- and at the end of the input has no other lines
pub Cuts-whole : (a b c : Option (List ℕ)) (lines : List (List ℕ)) → Cuts a b lines → Consumes b c [] → IsAtEnd c
    → (input : List ℕ) × IsInput a input × Consumes a c input × (lines_of input ≡ lines)
Cuts-whole None b c lines cuts taken end = (with_feeds lines, tt, tt, lines_of-with_feeds lines cuts)
Cuts-whole (Some input) None c lines cuts taken end = absurd cuts
Cuts-whole (Some input) (Some rest) None lines cuts taken end = absurd taken
Cuts-whole (Some input) (Some rest) (Some left) lines cuts taken end = (
  input,
  refl,
  sym (append-nil input) ∙ ap (λ l. input ++ l) (sym end),
  cut_lines input rest lines cuts ∙ ap (λ l. lines ++ lines_of l) (taken ∙ end) ∙ append-nil lines,
)

-- just these lines were taken
pub Cuts-taken : (a b : Option (List ℕ)) (lines : List (List ℕ)) → Cuts a b lines → TakesLines lines a b
Cuts-taken None b lines cuts = (with_feeds lines, tt, lines_of-with_feeds lines cuts)
Cuts-taken (Some input) None lines cuts = absurd cuts
Cuts-taken (Some input) (Some rest) lines cuts = (cuts.taken, cuts.joins, cuts.split)

cut_part : (input rest left : List ℕ) (lines : List (List ℕ)) → Cut input rest lines → (part : List ℕ)
    → HasNoFeed part → rest ≡ part ++ left → TakesLinesAndPart lines (Some input) (Some left)
cut_part input rest left lines cut [] plain taken =
    inl (cut.taken, cut.joins ∙ ap (λ l. cut.taken ++ l) taken, cut.split)
cut_part input rest left lines cut (byte ∷ more) plain taken = go cut.whole
  where
    go : ((more : List ℕ) → lines_of (cut.taken ++ more) ≡ lines ++ lines_of more) ⊎ (rest ≡ [])
        → TakesLinesAndPart lines (Some input) (Some left)
    go (inl whole) =
        let part : List ℕ = byte ∷ more in
        let joins : input ≡ (cut.taken ++ part) ++ left =
        cut.joins ∙ ap (λ l. cut.taken ++ l) taken ∙ sym (append_assoc cut.taken part left) in
        let split : lines_of (cut.taken ++ part) ≡ lines ++ part ∷ [] =
        whole part ∙ ap (λ l. lines ++ l) (lines_of-end part (omega arith) plain) in
        inr (part, (cut.taken ++ part, joins, split))
    go (inr empty) = absurd (none_taken rest (byte ∷ more) left empty taken (omega arith))

-- a part of the next line was taken as well
pub Cuts-part : (a b c : Option (List ℕ)) (lines : List (List ℕ)) → Cuts a b lines → PartIsTaken b c → TakesLinesAndPart lines a c
Cuts-part None b c lines cuts (part, plain, taken) = inl (with_feeds lines, tt, lines_of-with_feeds lines cuts)
Cuts-part (Some input) None c lines cuts (part, plain, taken) = absurd cuts
Cuts-part (Some input) (Some rest) None lines cuts (part, plain, taken) = absurd taken
Cuts-part (Some input) (Some rest) (Some left) lines cuts (part, plain, taken) =
    cut_part input rest left lines cuts part plain taken

-- ---- what is charged

pub Charges-none : (left : ℕ) (a : Option (List ℕ)) → Charges left left a a
Charges-none left a = ([], Consumes-nil a, omega arith)

pub Charges-trans : (first between now : ℕ) (a b c : Option (List ℕ))
    → Charges first between a b → Charges between now b c → Charges first now a c
Charges-trans first between now a b c (taken, one, is) (more, next, so) =
    (taken ++ more, Consumes-trans a b c taken more one next, omega (arith, length-append taken more, is, so))

-- nothing was taken
pub PartIsTaken-none : (a : Option (List ℕ)) → PartIsTaken a a
PartIsTaken-none a = ([], All-nil (λ x. x ≢ line_feed), Consumes-nil a)
