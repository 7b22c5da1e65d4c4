-- Each accepted request that can be repeated is already so when it is asked again.
use Rattle.index_rules.proofs.Words.{◌≡◌, ℕ, Bool, true, false, not, refl, false≢true, Request, AddUser, SetToken, SetQuota, Claim}
use Rattle.index_rules.proofs.Words.{AddOwner, RemoveOwner, Upload, Delete, BanFile, Yank, Unyank, Prohibit, Allow, Bytes, History, begins}
use Rattle.index_rules.proofs.Words.{more, IsLegal}
use Rattle.index_rules.specs.Retries.{RepeatIsAlready, RepeatsAreAlready}
use Rattle.index_rules.proofs.RetryFiles.{upload_again, delete_again, ban_again}
use Rattle.index_rules.proofs.RetryNames.{quota_again, claim_again, add_owner_again, remove_owner_again, yank_again, unyank_again}
use Rattle.index_rules.proofs.RetryNames.{prohibit_again, allow_again}
use Rattle.index_rules.proofs.RetryUsers.{add_user_again, set_token_again}

is_not : (b : Bool) → not b ≡ true → b ≡ false
is_not true is = absurd (false≢true is)
is_not false is = refl

repeat : (r : Request) (h : History) (actor token : Bytes) (at : ℕ)
    → IsLegal (more h (record { actor = actor; call = record { at = at; token = token; request = r } }))
    → RepeatIsAlready h (record { actor = actor; call = record { at = at; token = token; request = r } })
repeat (AddUser user office digest) h actor token at legal may again valid =
    add_user_again h actor token at again valid user office digest legal
repeat (SetToken user digest) h actor token at legal may again valid =
    set_token_again h actor token at again valid user digest (is_not _ may) legal
repeat (SetQuota name quota) h actor token at legal may again valid = quota_again h actor token at again valid legal.2 name quota legal.1
repeat (Claim name) h actor token at legal may again valid = claim_again h actor token at again valid legal.2 name legal.1
repeat (AddOwner name user) h actor token at legal may again valid = add_owner_again h actor token at again valid legal.2 name user legal.1
repeat (RemoveOwner name user) h actor token at legal may again valid =
    remove_owner_again h actor token at again valid legal.2 name user (is_not _ may) legal.1
repeat (Upload file declared body requires) h actor token at legal may again valid =
    upload_again h actor token at again valid file declared body requires legal
repeat (Delete file) h actor token at legal may again valid = delete_again h actor token at again valid file legal
repeat (BanFile file) h actor token at legal may again valid = ban_again h actor token at again valid file legal
repeat (Yank name release reason) h actor token at legal may again valid =
    yank_again h actor token at again valid legal.2 name release reason legal.1
repeat (Unyank name release) h actor token at legal may again valid = unyank_again h actor token at again valid legal.2 name release legal.1
repeat (Prohibit name) h actor token at legal may again valid = prohibit_again h actor token at again valid legal.2 name legal.1
repeat (Allow name) h actor token at legal may again valid = allow_again h actor token at again valid legal.2 name legal.1
repeat r h actor token at legal may again valid = absurd (false≢true may)

pub repeats_are_already : (h : History) → IsLegal h → RepeatsAreAlready h
repeats_are_already (begins user token) legal = tt
repeats_are_already (more h e) legal = (repeats_are_already h legal.0, repeat e.call.request h e.actor e.call.token e.call.at legal)
