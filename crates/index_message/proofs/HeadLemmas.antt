-- Heads of bounded length: what decides that none comes.
use Rattle.std.proofs.lemmas.Str.{IsUtf8-from_ascii}
use Rattle.httparse.proofs.OnLiterals.{httparse_on_literals}
use Rattle.std.proofs.lemmas.List.Elements.{All-cons, All-nil}
use Rattle.std.proofs.lemmas.Bool.{cases_Bool, eqb-true}
use Rattle.std.proofs.Common.{All, IsAscii, IsTrue, zero, suc, inl, inr, nat_eq, refl, codes, ◌≡◌, ℕ, ◌<◌, List, [], ◌∷◌, ◌++◌, length}
use Rattle.std.proofs.Common.{take, drop, sym, ◌∙◌, ap, arith, length-append}
use Rattle.std.specs.Prelude.{◌⊎◌, ◌&&◌}
use Rattle.std.specs.List.{starts_with}
use Rattle.std.proofs.lemmas.List.{append_assoc, take-append-le, take-append-drop}
use Rattle.std.proofs.Math.Seq.{take-append_seam}
use Rattle.httparse.specs.Grammar.{IsRequestHead, RequestHead, print_request, HasNoRequest, MayBecomeRequest, AllPass, is_token_byte}
use Rattle.httparse.specs.Grammar.{is_uri_byte, lf}
use Rattle.index_message.specs.Heads.{HasNoHead}
use Rattle.index_message.specs.Messages.{begins_with_head}

-- a head has a byte
head_length : (h : RequestHead) → IsRequestHead h → 0 < length (print_request h)
unfolding print_request
head_length h p = simp length-append (omega (arith, p.method.0))

-- no bytes are no head
pub none_in_nothing : HasNoRequest []
none_in_nothing h rest x =
    let longer : 0 < length (print_request h) = head_length h x.0 in
    omega (arith, longer, simp length-append at (ap length x.1))

-- the least head
abbrev least_head : RequestHead
least_head = record { blank = []; method = codes "x"; target = codes "x"; minor = 0; line_end = lf; fields = []; last = lf }

-- what holds of one element
all_one : (P : ℕ → Type 0) (x : ℕ) → P x → All P (x ∷ [])
all_one P x is zero d within = is
all_one P x is (suc k) d within = absurd (omega (arith, within))

ascii_x : IsAscii (codes "x")
ascii_x zero = omega arith
ascii_x (suc i) = omega arith

-- nothing may become a head
pub may_nothing : MayBecomeRequest []
unfolding httparse_on_literals
may_nothing = inl (
  codes "x x HTTP/1.0\n\n",
  least_head,
  (
    record {
      method = (omega arith, all_one (λ b. IsTrue (is_token_byte b)) 120 refl);
      target = (omega arith, all_one (λ b. IsTrue (is_uri_byte b)) 120 refl);
      target_text = IsUtf8-from_ascii (codes "x") ascii_x;
      minor = omega arith;
      fields = All-nil _;
    },
    refl,
  ),
)

-- as many bytes as a head may have, which begin with no head, decide
pub none_by_limit : (bytes rest : List ℕ) → length bytes ≡ 16384 → HasNoRequest bytes → HasNoHead (bytes ++ rest)
none_by_limit bytes rest full none h q x =
    let front : take (length (print_request h)) bytes ≡ print_request h =
    sym (take-append-le (length (print_request h)) bytes rest (omega (arith, x.short))) ∙ ap (take (length (print_request h))) x.reads.1
    ∙ take-append_seam (print_request h) q in
    none h (drop (length (print_request h)) bytes)
    (x.reads.0, sym (take-append-drop (length (print_request h)) bytes) ∙ ap (λ a. a ++ drop (length (print_request h)) bytes) front)

-- ---- the method of a head that can't be read

-- what follows these bytes does not tell whether they begin with this text, or they are a front of it
pub decided : (text bytes : List ℕ)
    → ((rest : List ℕ) → starts_with nat_eq (bytes ++ rest) text ≡ starts_with nat_eq bytes text)
    ⊎ ((more : List ℕ) × (text ≡ bytes ++ more))
decided [] bytes = inl (λ rest. refl)
decided (c ∷ text) [] = inr (c ∷ text, refl)
decided (c ∷ text) (b ∷ bytes) = elim (cases_Bool (nat_eq c b)) [
  | inl same ↦ elim (decided text bytes) [
    | inl tells ↦ inl (λ rest. ap (λ so. nat_eq c b && so) (tells rest))
    | inr front ↦ inr (front.0, let is = eqb-true c b same in let e = front.1 in cc)
  ]
  | inr other ↦ inl (λ rest. ap (λ so. so && starts_with nat_eq (bytes ++ rest) text) other
      ∙ sym (ap (λ so. so && starts_with nat_eq bytes text) other))
]

-- a byte of a method before others
token : (b : ℕ) (bytes : List ℕ) → IsTrue (is_token_byte b) → AllPass is_token_byte bytes → AllPass is_token_byte (b ∷ bytes)
token = All-cons (λ b. IsTrue (is_token_byte b))

-- the least head of this method
abbrev head_of_head : RequestHead
head_of_head = record { blank = []; method = codes "HEAD"; target = codes "x"; minor = 0; line_end = lf; fields = []; last = lf }

is_head_of_head : IsRequestHead head_of_head
unfolding httparse_on_literals
is_head_of_head = record {
  method = (
    omega arith,
    token 72 (codes "EAD") refl
        (token 69 (codes "AD") refl (token 65 (codes "D") refl (token 68 [] refl (All-nil (λ b. IsTrue (is_token_byte b)))))),
  );
  target = (omega arith, all_one (λ b. IsTrue (is_uri_byte b)) 120 refl);
  target_text = IsUtf8-from_ascii (codes "x") ascii_x;
  minor = omega arith;
  fields = All-nil _;
}

-- a front of it may become a head
may_come : (bytes more : List ℕ) → codes "HEAD " ≡ bytes ++ more → ((rest : List ℕ) → HasNoHead (bytes ++ rest)) → ⊥
unfolding httparse_on_literals
may_come bytes more is never =
    let behind = codes "x HTTP/1.0\n\n" in
    never (more ++ behind) head_of_head []
    (record {
      reads = (is_head_of_head, sym (append_assoc bytes more behind) ∙ ap (λ front. front ++ behind) (sym is));
      short = omega arith;
      few = omega arith;
    })

-- whether an input without a head begins with the method `HEAD` is told by the bytes that came: none can follow that make them a head
pub method_when_never : (bytes left : List ℕ) → ((more : List ℕ) → HasNoHead (bytes ++ more))
    → begins_with_head (bytes ++ left) ≡ begins_with_head bytes
method_when_never bytes left never = elim (decided (codes "HEAD ") bytes) [
  | inl tells ↦ tells left
  | inr front ↦ absurd (may_come bytes front.0 front.1 never)
]
