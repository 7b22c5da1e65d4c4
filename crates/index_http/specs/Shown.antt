-- What is to be shown, before it is sent.
use Rattle.std.specs.Prelude.{◌≡◌, Bool, true, false, Some, is_some, string_bytes}
use Rattle.index_names.specs.FileName.{read_file_name}
use Rattle.index_names.specs.Project.{read_name}
use Rattle.index_rules.specs.Tables.{Tables}
use Rattle.index_desk.specs.Rules.{by_tables}
use Rattle.index_message.specs.declared.resource.Resource.{Resource}
use Rattle.index_message.specs.declared.resource.Resource.TheVariants as resource
use Rattle.index_http.specs.Exchanges.{ShowsFile, ShowsProject, ShowsRoot, refusal_reply}
use Rattle.index_http.specs.Replies.{Reply, json_reply, message_reply, redirect_to_project}
use Rattle.index_http.specs.Replies.{redirect_to_root}
use Rattle.index_http.specs.Shows.{Look}
use Rattle.index_http.specs.declared.get.Shown.{Shown}
use Rattle.index_http.specs.declared.get.Shown.TheVariants.{Faulty, Refused, Standing, ToProject}
use Rattle.index_http.specs.declared.get.Shown.TheVariants.{ToRoot}
use Rattle.index_http.specs.declared.get.ToShow.{ToShow}
use Rattle.index_http.specs.declared.get.ToShow.TheVariants.{File, Found, Project, Root}

-- the reply that was found
abbrev pub reply_of_shown : Shown → Reply
reply_of_shown (Faulty fault) = message_reply fault
reply_of_shown (Refused refusal) = refusal_reply refusal
reply_of_shown ToRoot = redirect_to_root
reply_of_shown (ToProject name) = redirect_to_project name
reply_of_shown (Standing text) = json_reply (string_bytes text)

-- this reply shows what is to be shown
abbrev pub ReplyShowsFound : Tables → ToShow → Reply → Type 0
ReplyShowsFound T (Root served) reply = ShowsRoot by_tables T (Some served) reply
ReplyShowsFound T (Project name served) reply = ShowsProject by_tables T name (Some served) reply
ReplyShowsFound T (File file) reply = ShowsFile by_tables T file true reply
ReplyShowsFound T (Found shown) reply = reply ≡ reply_of_shown shown

-- each reply that shows what is to be shown is of this kind
abbrev pub LeadsTo : Tables → ToShow → (Reply → Type 0) → Type 0
LeadsTo T what IsReply = (reply : Reply) → ReplyShowsFound T what reply → IsReply reply

-- a page is to be shown
abbrev pub is_page_to_show : ToShow → Bool
is_page_to_show (Root served) = true
is_page_to_show (Project name served) = true
is_page_to_show (File file) = false
is_page_to_show (Found shown) = false

-- the reply was found already
abbrev pub is_reply : ToShow → Bool
is_reply (Found shown) = true
is_reply (Root served) = false
is_reply (Project name served) = false
is_reply (File file) = false

-- the look that sends what is to be shown
abbrev pub look_for : Bool → ToShow → Look
look_for is_head what = record { is_page = is_page_to_show what; is_head = is_head }

-- a resource without a name, or with a valid one
abbrev pub can_be_read : Resource → Bool
can_be_read resource.Simple = false
can_be_read resource.Root = true
can_be_read (resource.Project name) = is_some (read_name name)
can_be_read (resource.ProjectPage name) = is_some (read_name name)
can_be_read (resource.File file) = is_some (read_file_name file)
can_be_read (resource.Name name) = is_some (read_name name)
can_be_read resource.Requests = false
