-- The statements of the steps are such that SQL understands them on the tables of an index.
use Rattle.index_sql_writes.proofs.Words.{refl, arith, understood, index_schema, put_user_text, put_name_text, put_owner_text}
use Rattle.index_sql_writes.proofs.Words.{put_file_text, put_body_text, put_yank_text, put_case_text, put_ban_text, delete_name_text}
use Rattle.index_sql_writes.proofs.Words.{delete_owners_text, delete_owner_text, delete_yanks_text, delete_yank_text, delete_case_text}
use Rattle.index_sql_writes.proofs.Words.{delete_body_text, update_files_text}
use Rattle.sqlite_tied.specs.Compute.{everything}
use Rattle.index_sql_writes.proofs.AskLemmas.{IsWrite}

pub put_user_sure : IsWrite index_schema put_user_text 3
unfolding understood everything IsWrite
put_user_sure = (omega arith, refl, refl, refl, tt)

pub put_name_sure : IsWrite index_schema put_name_text 7
unfolding understood everything IsWrite
put_name_sure = (omega arith, refl, refl, refl, tt)

pub put_owner_sure : IsWrite index_schema put_owner_text 2
unfolding understood everything IsWrite
put_owner_sure = (omega arith, refl, refl, refl, tt)

pub put_file_sure : IsWrite index_schema put_file_text 7
unfolding understood everything IsWrite
put_file_sure = (omega arith, refl, refl, refl, tt)

pub put_body_sure : IsWrite index_schema put_body_text 2
unfolding understood everything IsWrite
put_body_sure = (omega arith, refl, refl, refl, tt)

pub put_yank_sure : IsWrite index_schema put_yank_text 3
unfolding understood everything IsWrite
put_yank_sure = (omega arith, refl, refl, refl, tt)

pub put_case_sure : IsWrite index_schema put_case_text 13
unfolding understood everything IsWrite
put_case_sure = (omega arith, refl, refl, refl, tt)

pub put_ban_sure : IsWrite index_schema put_ban_text 1
unfolding understood everything IsWrite
put_ban_sure = (omega arith, refl, refl, refl, tt)

pub delete_name_sure : IsWrite index_schema delete_name_text 1
unfolding understood everything IsWrite
delete_name_sure = (omega arith, refl, refl, refl, tt)

pub delete_owners_sure : IsWrite index_schema delete_owners_text 1
unfolding understood everything IsWrite
delete_owners_sure = (omega arith, refl, refl, refl, tt)

pub delete_owner_sure : IsWrite index_schema delete_owner_text 2
unfolding understood everything IsWrite
delete_owner_sure = (omega arith, refl, refl, refl, tt)

pub delete_yanks_sure : IsWrite index_schema delete_yanks_text 1
unfolding understood everything IsWrite
delete_yanks_sure = (omega arith, refl, refl, refl, tt)

pub delete_yank_sure : IsWrite index_schema delete_yank_text 2
unfolding understood everything IsWrite
delete_yank_sure = (omega arith, refl, refl, refl, tt)

pub delete_case_sure : IsWrite index_schema delete_case_text 1
unfolding understood everything IsWrite
delete_case_sure = (omega arith, refl, refl, refl, tt)

pub delete_body_sure : IsWrite index_schema delete_body_text 1
unfolding understood everything IsWrite
delete_body_sure = (omega arith, refl, refl, refl, tt)

pub update_files_sure : IsWrite index_schema update_files_text 1
unfolding understood everything IsWrite
update_files_sure = (omega arith, refl, refl, refl, tt)
