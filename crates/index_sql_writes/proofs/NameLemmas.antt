-- A record that is put again after its row went.
use Rattle.index_sql_writes.proofs.Words.{◌≡◌, true, false, sym, ◌∙◌, remove, get, same_map, nat_list_cmp_total, exact_bytes, Bytes, Map}
use Rattle.index_sql_writes.proofs.Words.{FileRecord, Project, puts_name, puts_file, deletes_body, deletes_bodies}
use Rattle.std.specs.FinMap.{insert}
use Rattle.index_rules.specs.Effect.{means}
use Rattle.index_rules.specs.declared.change.Change.TheVariants as change
use Rattle.index_rules.specs.declared.records.NameRecord.TheVariants.{Held, Prohibited}
use Rattle.index_rules.proofs.PutLemmas.{get-put_here, get-put_other, get-without_other, each_put}
use Rattle.index_rules.specs.Effect.{without_record}
use Rattle.index_sql_writes.specs.Writes.{puts_body, deletes_case, marks_files}

pub insert-remove : {X : Type 0} (m : Map X) (k : Bytes) (v : X) → insert (remove m k) k v ≡ insert m k v
insert-remove m k v =
    same_map nat_list_cmp_total exact_bytes _ _ (each_put (remove m k) k v (λ q found. found ≡ get (insert m k v) q)
    (sym (get-put_here m k v))
    (λ q other. get-without_other m k q other ∙ sym (get-put_other m k v q other)))

-- the steps of a prohibition
pub prohibits : (name : Bytes) → (λ T. puts_name name Prohibited (without_record name (marks_files name (deletes_bodies name T))))
    ≡ means (change.Prohibit name)
prohibits name i T = record (means (change.Prohibit name) T) { names = insert-remove T.names name Prohibited i }

-- the steps of an upload, and of one that ends a case
module _ (name : Bytes) (project : Project) (file : Bytes) (known : FileRecord) (body : Bytes) where
  pub uploads : (λ T. puts_body file body (deletes_body file (puts_file file known (puts_name name (Held project) T))))
      ≡ means (change.Upload name project file known body false)
  uploads i T = record (means (change.Upload name project file known body false) T) { bodies = insert-remove T.bodies file body i }

  pub uploads_in_case : (λ T. deletes_case name
      (puts_body file body (deletes_body file (puts_file file known (puts_name name (Held project) T)))))
      ≡ means (change.Upload name project file known body true)
  uploads_in_case i T = record (means (change.Upload name project file known body true) T) { bodies = insert-remove T.bodies file body i }
