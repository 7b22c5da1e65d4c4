use Rattle.index_pages.proofs.Words.{◌≡◌, ◌++◌, drop}
use Rattle.index_pages.proofs.whole.append_page.Given as goal

-- the text so far, and what is still to be written by the rows that are left
abbrev pub invariant-loop-row : goal.invariant-loop-row
invariant-loop-row g l = l.out.items ++ g.P.Page.rest l.page l.name (drop l.row-index l.rows) ≡ l.fn.out.items
    ++ g.P.Page.rest l.fn.page l.name l.rows
