-- A token is unique among the rows of users, so one user bears it.
use Rattle.index_sql_schema.proofs.Words.{◌≡◌, ◌⊎◌, inl, inr, true, false, List, [], ◌∷◌, refl, sym, ap, subst, ◌∙◌, true≢false}
use Rattle.index_sql_schema.proofs.Words.{nat_list_cmp_total, exact_bytes, is_eq-slice_cmp, bytes_eq-Decides, Row, column, bytes, plain}
use Rattle.index_sql_schema.proofs.Words.{first_key, IsAscending, Eq, agree, Has, Database, at_blobs, last_term, UserRecord, users_at}
use Rattle.index_sql_schema.proofs.Words.{text_key, user_in, tables_in, IsIndex}
use Rattle.index_rules.specs.Facts.{HasOneBearer}
use Rattle.index_rules.proofs.KeyLemmas.{same-refl}
use Rattle.index_sql_schema.proofs.EditLemmas.{has_all}
use Rattle.index_sql_schema.proofs.KeyLemmas.{IsBlob, blobs, apart_by}
use Rattle.index_sql_schema.proofs.KeyedLemmas.{row_at_key}
use Rattle.index_sql_schema.proofs.TableLemmas.{is_key, users_keyed}

-- two rows of the list are one, or stand in its relation
either_way : {A : Type 0} (R : A → A → Type 0) (xs : List A) (a b : A) → IsAscending R xs → Has xs a → Has xs b → (a ≡ b) ⊎ (R a b ⊎ R b a)
either_way R [] a b up none other = absurd none
either_way R (x ∷ xs) a b up (inl p) (inl q) = inl (p ∙ sym q)
either_way R (x ∷ xs) a b up (inl p) (inr q) = inr (inl (subst (λ z. R z b) (sym p) (has_all (R x) xs b up.0 q)))
either_way R (x ∷ xs) a b up (inr p) (inl q) = inr (inr (subst (λ z. R z a) (sym q) (has_all (R x) xs a up.0 p)))
either_way R (x ∷ xs) a b up (inr p) (inr q) = either_way R xs a b up.1 p q

agree_tokens : (a b : Row) → IsBlob 3 a → IsBlob 3 b → bytes (column a 3) ≡ bytes (column b 3) → agree plain (3 ∷ []) b (3 ∷ []) a ≡ true
unfolding first_key
agree_tokens a b p q same = rw (p, q, same) (last_term
    (at_blobs false Eq (bytes (column b 3)) (bytes (column b 3)) ∙ is_eq-slice_cmp (bytes (column b 3)) (bytes (column b 3))
    ∙ same-refl (bytes (column b 3))))

pub one_bearer : (db : Database) → IsIndex db → HasOneBearer (tables_in db.trees)
one_bearer db h u v x y at_u at_v same =
    let tokens = blobs 1 (users_at 1) refl db h refl 2 _ refl refl refl refl in
    let r = row_at_key nat_list_cmp_total exact_bytes text_key user_in 1 users_keyed.apart db u x at_u in
    let s = row_at_key nat_list_cmp_total exact_bytes text_key user_in 1 users_keyed.apart db v y at_v in
    let at_r = has_all (IsBlob 3) (db.trees 1) r.0 tokens r.1 in
    let at_s = has_all (IsBlob 3) (db.trees 1) s.0 tokens s.1 in
    let token : bytes (column r.0 3) ≡ bytes (column s.0 3) =
    ap (λ (it : UserRecord). it.token) r.3 ∙ same ∙ sym (ap (λ (it : UserRecord). it.token) s.3) in
    let key_r : text_key r.0 ≡ u = (bytes_eq-Decides (text_key r.0) u).0 (is_key u (text_key r.0) ∙ r.2) in
    let key_s : text_key s.0 ≡ v = (bytes_eq-Decides (text_key s.0) v).0 (is_key v (text_key s.0) ∙ s.2) in
    elim (either_way _ (db.trees 1) r.0 s.0 (apart_by 1 (users_at 1) refl db h 1 _ refl refl) r.1 s.1) [
      | inl one ↦ sym key_r ∙ ap text_key one ∙ key_s
      | inr apart ↦ elim apart [
        | inl one ↦ absurd (true≢false (sym (agree_tokens r.0 s.0 at_r at_s token) ∙ one))
        | inr other ↦ absurd (true≢false (sym (agree_tokens s.0 r.0 at_s at_r (sym token)) ∙ other))
      ]
    ]
