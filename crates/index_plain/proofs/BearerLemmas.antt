-- The users by token stay those of the users through a change.
use Rattle.index_plain.proofs.Words.{◌≡◌, Bool, true, false, cond, ◌&&◌, refl, sym, ap, ◌∙◌, subst, Option, Some, None, option_map, is_some}
use Rattle.index_plain.proofs.Words.{Err, option_map_or, empty, get, get-empty, insert, remove, false≢true, UserRecord, Bytes, Map, Pairs}
use Rattle.index_plain.proofs.Words.{same, bytes_cmp, same-is, AreBearers}
use Rattle.std.proofs.Common.{inl, inr}
use Rattle.std.proofs.Common.{Result, Ok, OnOk, OnErr}
use Rattle.std.specs.FinMap.{contains_key}
use Rattle.index_rules.specs.Maps.{pair_cmp}
use Rattle.index_rules.proofs.KeyLemmas.{same-refl, cases_same, get-put, has-put, has-without}
use Rattle.index_plain.specs.Bearers.{is_bearer}

-- whether the token of a user who may be known has this digest
abbrev has_token : Bytes → Option UserRecord → Bool
has_token token at = option_map_or (λ known. same token known.token) at false

-- ---- what the tests of two keys come to

moved : (at_former at_new is_user is : Bool) → (is_user ≡ true → is ≡ at_former) → (at_former ≡ true → at_new ≡ false)
    → cond (at_former && is_user) false (cond (at_new && is_user) true is) ≡ cond is_user at_new is
moved true true false is h k = refl
moved true false false is h k = refl
moved false true false is h k = refl
moved false false false is h k = refl
moved true true true is h k = sym (k refl)
moved true false true is h k = refl
moved false true true is h k = refl
moved false false true is h k = h refl

added : (at_new is_user is : Bool) → (is_user ≡ true → is ≡ false) → cond (at_new && is_user) true is ≡ cond is_user at_new is
added true false is h = refl
added false false is h = refl
added true true is h = refl
added false true is h = h refl

-- ---- a change of one user

module _ (users : Map UserRecord) where
  unknown : (user token : Bytes) → option_map (λ (known : UserRecord). known.token) (get users user) ≡ None
      → is_bearer users token user ≡ false
  unknown user token = elim (get users user) as (λ at. option_map (λ (known : UserRecord). known.token) at ≡ None
      → has_token token at ≡ false) [
        | None ↦ λ _. refl
        | Some known ↦ λ e. absurd (false≢true (sym (ap is_some e)))
      ]

  has_former : (user former token : Bytes) → option_map (λ (known : UserRecord). known.token) (get users user) ≡ Some former
      → is_bearer users token user ≡ same token former
  has_former user former token = elim (get users user) as (λ at. option_map (λ (known : UserRecord). known.token) at ≡ Some former
      → has_token token at ≡ same token former) [
        | None ↦ λ e. absurd (false≢true (ap is_some e))
        | Some known ↦ λ e. let is : known.token ≡ former = cc in ap (same token) is
      ]

  module _ (user : Bytes) (known : UserRecord) where
    bears-put : (token q : Bytes) → is_bearer (insert users user known) token q
        ≡ cond (same q user) (same token known.token) (is_bearer users token q)
    bears-put token q = ap (has_token token) (get-put users user known q)
        ∙ elim (same q user) as (λ b. has_token token (cond b (Some known) (get users q))
        ≡ cond b (same token known.token) (is_bearer users token q)) [ true ↦ refl | false ↦ refl ]

    -- the token stays
    pub bearers_stay : (bearers : Pairs) → option_map (λ (account : UserRecord). account.token) (get users user) ≡ Some known.token
        → AreBearers users bearers → AreBearers (insert users user known) bearers
    bearers_stay bearers token_is are token q =
        are token q ∙ elim (cases_same q user) as (λ _. is_bearer users token q ≡ is_bearer (insert users user known) token q) [
          | inl is ↦ ap (is_bearer users token) is ∙ has_former user known.token token token_is
              ∙ sym (bears-put token q ∙ ap (λ b. cond b (same token known.token) (is_bearer users token q))
              (ap (λ x. same x user) is ∙ same-refl user))
          | inr other ↦ sym (bears-put token q ∙ ap (λ b. cond b (same token known.token) (is_bearer users token q)) other)
        ]

    -- the user is new
    pub bearers_add : (bearers : Pairs) → option_map (λ (account : UserRecord). account.token) (get users user) ≡ None
        → AreBearers users bearers → AreBearers (insert users user known) (insert bearers (known.token, user) tt)
    bearers_add bearers none are token q =
        has-put bearers known.token user token q ∙ ap (cond (same token known.token && same q user) true) (are token q)
        ∙ added (same token known.token) (same q user) (is_bearer users token q)
        (λ h. ap (is_bearer users token) (same-is q user h) ∙ unknown user token none)
        ∙ sym (bears-put token q)

    -- the user had another token
    pub bearers_move : (bearers : Pairs) (former : Bytes)
        → option_map (λ (account : UserRecord). account.token) (get users user) ≡ Some former → same former known.token ≡ false
        → AreBearers users bearers
        → AreBearers (insert users user known) (remove (insert bearers (known.token, user) tt) (former, user))
    bearers_move bearers former had other are token q =
        has-without (insert bearers (known.token, user) tt) former user token q
        ∙ ap (cond (same token former && same q user) false)
        (has-put bearers known.token user token q ∙ ap (cond (same token known.token && same q user) true) (are token q))
        ∙ moved (same token former) (same token known.token) (same q user) (is_bearer users token q)
        (λ h. ap (is_bearer users token) (same-is q user h) ∙ has_former user former token had)
        (λ h. ap (λ x. same x known.token) (same-is token former h) ∙ other)
        ∙ sym (bears-put token q)

    -- what a new token has of the user before
    pub not_there : (bearers : Pairs) → AreBearers users bearers → is_bearer users known.token user ≡ false
        → get bearers (known.token, user) ≡ None
    not_there bearers are none = is_none (get bearers (known.token, user)) (are known.token user ∙ none)
      where
        is_none : (at : Option (Unit {0})) → is_some at ≡ false → at ≡ None
        is_none None e = refl
        is_none (Some x) e = absurd (false≢true (sym e))

    pub new_user_not_there : (bearers : Pairs) → AreBearers users bearers
        → option_map (λ (account : UserRecord). account.token) (get users user) ≡ None → get bearers (known.token, user) ≡ None
    new_user_not_there bearers are none = not_there bearers are (unknown user known.token none)

    pub new_token_not_there : (bearers : Pairs) (former : Bytes) → AreBearers users bearers
        → option_map (λ (account : UserRecord). account.token) (get users user) ≡ Some former → same former known.token ≡ false
        → get bearers (known.token, user) ≡ None
    new_token_not_there bearers former are had other =
        not_there bearers are (has_former user former known.token had
        ∙ elim (cases_same known.token former) as (λ _. same known.token former ≡ false) [
          | inl is ↦ ap (λ x. same x former) is ∙ ap (same former) (sym is) ∙ other
          | inr e ↦ e
        ])

-- no users have no tokens
pub bearers_none : (users : Map UserRecord) (bearers : Pairs) → users ≡ empty → bearers ≡ empty → AreBearers users bearers
bearers_none users bearers no_users no_bearers token user =
    ap (λ (m : Pairs). contains_key m (token, user)) no_bearers ∙ ap is_some (get-empty pair_cmp (token, user))
    ∙ sym (ap (λ (m : Map UserRecord). is_bearer m token user) no_users ∙ ap (has_token token) (get-empty bytes_cmp user))

-- the same ones
pub bearers_same : (users users' : Map UserRecord) (bearers bearers' : Pairs) → users' ≡ users → bearers' ≡ bearers
    → AreBearers users bearers → AreBearers users' bearers'
bearers_same users users' bearers bearers' u b are =
    subst (λ (m : Map UserRecord). AreBearers m bearers') (sym u) (subst (AreBearers users) (sym b) are)

-- what follows from a success and from a failure
pub either_way : {A E : Type 0} (result : Result A E) (P P' Q Q' C : Type 0) → OnOk result P → OnOk result P' → OnErr result Q
    → OnErr result Q' → (P → P' → C) → (Q → Q' → C) → C
either_way (Ok x) P P' Q Q' C p p' q q' f g = f p p'
either_way (Err e) P P' Q Q' C p p' q q' f g = g q q'
