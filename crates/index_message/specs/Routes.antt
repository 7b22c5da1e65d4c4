-- The routes of the index (PEP 503, and the index's own).
use Rattle.std.specs.Prelude.{List, [], ◌∷◌, Option, Result, Ok, Err, option_map, codes}
use Rattle.matchit.specs.Rows.{RowsOf}
use Rattle.matchit.specs.Order.{placed}
use Rattle.matchit.specs.Seek.{first}
use Rattle.matchit.specs.Route.{Scan, parse_route}
use Rattle.matchit.specs.Router.{RouteOf, route_from}
use Rattle.matchit.specs.declared.error.InsertError.{InsertError}
use Rattle.index_rules.specs.Maps.{Bytes}
use Rattle.index_message.specs.declared.resource.Route.{Route}
use Rattle.index_message.specs.declared.resource.Route.TheVariants.{Simple, Root, Project}
use Rattle.index_message.specs.declared.resource.Route.TheVariants.{ProjectPage, File, Name}
use Rattle.index_message.specs.declared.resource.Route.TheVariants.{Requests}

-- each pattern with its route
abbrev pub patterns : List (Bytes × Route)
patterns =
    (codes "/simple", Simple)
    ∷ (codes "/simple/", Root)
    ∷ (codes "/simple/{project}", Project)
    ∷ (codes "/simple/{project}/", ProjectPage)
    ∷ (codes "/files/{project}/{file}", File)
    ∷ (codes "/names/{name}", Name)
    ∷ (codes "/requests", Requests)
    ∷ []

-- the rows of a router with one more pattern
abbrev pub with_pattern : Result Scan InsertError → Route
    → RowsOf (RouteOf Route) → RowsOf (RouteOf Route)
with_pattern (Ok read) route rows = placed (read.pattern, route_from read route) rows
with_pattern (Err error) route rows = rows

-- the rows of a router with these patterns added
abbrev pub with_patterns : RowsOf (RouteOf Route) → List (Bytes × Route) → RowsOf (RouteOf Route)
with_patterns rows [] = rows
with_patterns rows ((pattern, route) ∷ more) =
    with_patterns (with_pattern (parse_route pattern) route rows) more

-- the rows of a router with the patterns of the index
unfoldable pub site_rows : RowsOf (RouteOf Route)
site_rows = with_patterns [] patterns

-- the route that such a router finds for a path
abbrev pub route_of : Bytes → Option Route
route_of path = option_map (λ found. found.value) (first site_rows path)
