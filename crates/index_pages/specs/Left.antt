-- The text that is still to be written of each kind of page, by the rows to come.
use Rattle.std.specs.Prelude.{◌++◌}
use Rattle.index_rules.specs.Maps.{Bytes}
use Rattle.index_rules.specs.declared.rows.FileRow.{FileRow}
use Rattle.index_rules.specs.declared.rows.NameRow.{NameRow}
use Rattle.index_pages.specs.Parts.{html_rest, json_rest, name_line, project_rest, root_rest}
use Rattle.index_pages.specs.Parts.{root_start}
use Rattle.index_pages.specs.Rest.{Rest}
use Rattle.index_pages.specs.declared.project.ProjectPage.{ProjectPage}
use Rattle.index_pages.specs.declared.root.RootPage.{RootPage}

-- the rest of the root page
abbrev pub names_left : RootPage → Bytes → Rest NameRow
names_left page name = root_rest page.as_json page.is_started

-- the line of a held name on the root page
abbrev pub held_line : RootPage → Bytes → Bytes → Bytes
held_line page name shown = name_line page.as_json page.is_started name shown

-- the line of a held name, behind the text before the names if that is not written yet
abbrev pub held_text : RootPage → Bytes → Bytes → Bytes
held_text page name shown = root_start page.as_json page.is_started ++ held_line page name shown

-- the rest of a project's page
abbrev pub files_left : ProjectPage → Bytes → Rest FileRow
files_left page project =
    project_rest page.as_json project page.is_started page.releases.keys

-- the rest of a project's page in JSON
abbrev pub json_left : ProjectPage → Bytes → Rest FileRow
json_left page project = json_rest project page.is_started page.releases.keys

-- the rest of a project's page in HTML
abbrev pub html_left : ProjectPage → Bytes → Rest FileRow
html_left page project = html_rest project page.is_started
