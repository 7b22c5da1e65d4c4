-- The pages of the tables.
use Rattle.std.specs.Prelude.{Option, Some, None, option_map}
use Rattle.index_rules.specs.Maps.{Bytes}
use Rattle.index_rules.specs.TableRows.{held_rows_in}
use Rattle.index_rules.specs.Tables.{Tables}
use Rattle.index_pages.specs.Pages.{project_page_of, root_page_of}
use Rattle.index_pages.specs.declared.served.Served.{Served}
use Rattle.index_desk.specs.Projects.{project_rows_in}
use Rattle.index_caching.specs.declared.caching.PageKey.{PageKey}
use Rattle.index_caching.specs.declared.caching.PageKey.TheVariants.{Root, Project}

-- the project whose page it is; none for the root page
abbrev pub project_of_page : PageKey → Option Bytes
project_of_page Root = None
project_of_page (Project name) = Some name.now

-- the bytes of a page, or none for a name that is not held
abbrev pub text_in : Tables → Served → Option Bytes → Option Bytes
text_in T served None = Some (root_page_of served (held_rows_in T))
text_in T served (Some name) = option_map (project_page_of served name) (project_rows_in T name)

-- `text_in` by the key of the page
abbrev pub page_in : Tables → Served → PageKey → Option Bytes
page_in T served page = text_in T served (project_of_page page)
