-- The pages of rows, in each type.
use Rattle.std.specs.Prelude.{Bool, true, false, List, if◌then◌else◌}
use Rattle.index_rules.specs.Maps.{Bytes}
use Rattle.index_rules.specs.declared.rows.FileRow.{FileRow}
use Rattle.index_rules.specs.declared.rows.NameRow.{NameRow}
use Rattle.index_pages.specs.Html.{project_html, root_html}
use Rattle.index_pages.specs.Json.{project_json, root_json}
use Rattle.index_pages.specs.declared.served.Served.{Served}
use Rattle.index_pages.specs.declared.served.Served.TheVariants.{PlainHtml, Html, Json}

-- whether a page of this type is in JSON
abbrev pub is_json : Served → Bool
is_json PlainHtml = false
is_json Html = false
is_json Json = true

-- the root page, with the held names among these
abbrev pub root_page_of : Served → List NameRow → Bytes
root_page_of served rows = if is_json served then root_json rows else root_html rows

-- the page of a project, with these files
abbrev pub project_page_of : Served → Bytes → List FileRow → Bytes
project_page_of served project rows =
    if is_json served then project_json project rows else project_html project rows
