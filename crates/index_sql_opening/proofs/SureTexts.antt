-- The texts of a new index are such that SQL understands each on the tables that are made by then.
use Rattle.index_sql_opening.proofs.Words.{◌≡◌, ℕ, List, Some, arith, refl, subst, digits, everything, understood, index_schema, stage}
use Rattle.index_sql_opening.proofs.Words.{put_version_text, meta_text, users_text, names_text, owners_text, files_text, blobs_text}
use Rattle.index_sql_opening.proofs.Words.{yanks_text, cases_text, bans_text, IsWrite}
use Rattle.std.proofs.Common.{zero, suc, slice_get}
use Rattle.index_sql_schema.specs.CreateSteps.{all_texts}

meta_sure : IsWrite (stage 0) meta_text 0
unfolding understood everything digits IsWrite
meta_sure = (omega arith, refl, refl, refl, tt)

users_sure : IsWrite (stage 1) users_text 0
unfolding understood everything digits IsWrite
users_sure = (omega arith, refl, refl, refl, tt)

names_sure : IsWrite (stage 2) names_text 0
unfolding understood everything digits IsWrite
names_sure = (omega arith, refl, refl, refl, tt)

owners_sure : IsWrite (stage 3) owners_text 0
unfolding understood everything digits IsWrite
owners_sure = (omega arith, refl, refl, refl, tt)

files_sure : IsWrite (stage 4) files_text 0
unfolding understood everything digits IsWrite
files_sure = (omega arith, refl, refl, refl, tt)

blobs_sure : IsWrite (stage 5) blobs_text 0
unfolding understood everything digits IsWrite
blobs_sure = (omega arith, refl, refl, refl, tt)

yanks_sure : IsWrite (stage 6) yanks_text 0
unfolding understood everything digits IsWrite
yanks_sure = (omega arith, refl, refl, refl, tt)

cases_sure : IsWrite (stage 7) cases_text 0
unfolding understood everything digits IsWrite
cases_sure = (omega arith, refl, refl, refl, tt)

bans_sure : IsWrite (stage 8) bans_text 0
unfolding understood everything digits IsWrite
bans_sure = (omega arith, refl, refl, refl, tt)

pub version_sure : IsWrite index_schema put_version_text 1
unfolding understood everything IsWrite
version_sure = (omega arith, refl, refl, refl, tt)

by : (n : ℕ) (text sql : List ℕ) → IsWrite (stage n) text 0 → text ≡ sql → IsWrite (stage n) sql 0
by n text sql sure same = subst (λ t. IsWrite (stage n) t 0) same sure

pub table_sure : (n : ℕ) (sql : List ℕ) → slice_get all_texts n ≡ Some sql → IsWrite (stage n) sql 0
table_sure zero sql e = by 0 meta_text sql meta_sure cc
table_sure (suc zero) sql e = by 1 users_text sql users_sure cc
table_sure (suc (suc zero)) sql e = by 2 names_text sql names_sure cc
table_sure (suc (suc (suc zero))) sql e = by 3 owners_text sql owners_sure cc
table_sure (suc (suc (suc (suc zero)))) sql e = by 4 files_text sql files_sure cc
table_sure (suc (suc (suc (suc (suc zero))))) sql e = by 5 blobs_text sql blobs_sure cc
table_sure (suc (suc (suc (suc (suc (suc zero)))))) sql e = by 6 yanks_text sql yanks_sure cc
table_sure (suc (suc (suc (suc (suc (suc (suc zero))))))) sql e = by 7 cases_text sql cases_sure cc
table_sure (suc (suc (suc (suc (suc (suc (suc (suc zero)))))))) sql e = by 8 bans_text sql bans_sure cc
table_sure (suc (suc (suc (suc (suc (suc (suc (suc (suc n))))))))) sql e = absurd (let f = e in cc)
