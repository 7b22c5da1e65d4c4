-- What was found first and then sent is shown.
use Rattle.index_http.proofs.Words.{◌≡◌, ◌∙◌, Bool, true, false, refl, List, Option, Some, None, Result, Ok, option_map, Bytes, Tables}
use Rattle.index_http.proofs.Words.{FileRow, Ghosts, project_rows_in, by_tables, project_page_of, Served, ShowsProject, ShowsRows}
use Rattle.index_http.proofs.Words.{PageShown, Reply, SinkStep, at_desk, IoEnd, leaves_on, look_leaves}
use Rattle.std.specs.Prelude.{◌&&◌, not}
use Rattle.index_desk.specs.Looks.{LooksAt}
use Rattle.index_caching.specs.Pages.{text_in}
use Rattle.index_http.specs.Shown.{LeadsTo, ReplyShowsFound, is_page_to_show, look_for}
use Rattle.index_http.specs.Shows.{LookShows}
use Rattle.index_http.specs.declared.get.ToShow.{ToShow}
use Rattle.index_http.proofs.EndLemmas.{ends_shown_map, shown_map}
use Rattle.index_http.proofs.Failures.{lasts_map}

-- what is no page has none in its reply
no_page : (a b is_head : Bool) → (a ≡ true → b ≡ true) → (b && not is_head) ≡ false → (a && not is_head) ≡ false
no_page false b is_head page none = refl
no_page true b is_head page none = rw (page refl) at none

-- a look, and then the reply that it leads to
pub found_and_sent : {S K : Type 0} (g : Ghosts S) (old mid new : S) (sink : SinkStep K) (is_head is_page : Bool) (what : ToShow)
    (IsReply : Tables → Reply → Type 0)
    (result : Result (Unit {0}) IoEnd) → LooksAt g old mid (Ok what) (λ T what. LeadsTo T what (IsReply T))
    → LookShows (look_for is_head what) (λ T. ReplyShowsFound T what) (at_desk g mid new) sink result
    → (is_page_to_show what ≡ true → is_page ≡ true)
    → LookShows (record { is_page = is_page; is_head = is_head }) IsReply (at_desk g old new) sink result
found_and_sent g old mid new sink is_head is_page what IsReply result looks shows page = record {
  shown = λ honest clean.
      let then = looks.look.lasts honest (shows.leaves.clean clean) in
      ends_shown_map _ _ _ _ _ _ _ (looks.found then) (rw (looks.look.unchanged then, looks.look.kept) at (shows.shown then clean));
  leaves = leaves_on _ _ _ _ (look_leaves _ _ _ _ looks.look) shows.leaves;
  sends = record {
    write_fault = shows.sends.write_fault;
    writes = shows.sends.writes;
    no_read_fault = shows.sends.no_read_fault;
    whole = λ none. shows.sends.whole (no_page (is_page_to_show what) is_page is_head page none);
  };
  stores = λ is. shows.stores is ∙ looks.look.stores;
  lasts = λ honest clean.
      let then = looks.look.lasts honest (shows.leaves.clean clean) in
      lasts_map _ _ _ _ (shown_map is_head _ _ ⊥ (looks.found then)) _
      (rw (looks.look.unchanged then, looks.look.kept) at (shows.lasts then clean));
}

-- the page of a project, or that there is none
pub project_shown : (served : Served) (T : Tables) (name : Bytes) (reply : Reply) → PageShown served (text_in T served (Some name)) reply
    → ShowsProject by_tables T name (Some served) reply
project_shown served T name reply shows = (project_rows_in T name, refl, which (project_rows_in T name) shows)
  where
    which : (rows : Option (List FileRow)) → PageShown served (option_map (project_page_of served name) rows) reply
        → ShowsRows name (Some served) rows reply
    which None shows = shows
    which (Some rows) shows = shows
