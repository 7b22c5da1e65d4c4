-- The resource and the method of a request.
use Rattle.std.specs.Prelude.{◌==◌, Bool, true, false, not, Option, Some, None, is_some}
use Rattle.std.specs.Prelude.{option_and_then}
use Rattle.std.specs.Prelude.{if◌then◌else◌, bytes_eq, codes}
use Rattle.std.specs.List.{after_first, before_first}
use Rattle.std.specs.Option.{option_map_or}
use Rattle.std.specs.Str.{byte, is_utf8}
use Rattle.percent_encoding.specs.Percent.{percent_decode}
use Rattle.index_rules.specs.Maps.{Bytes}
use Rattle.index_names.specs.FileName.{read_file_name}
use Rattle.index_message.specs.Routes.{route_of}
use Rattle.index_message.specs.declared.fault.Allowed.{Allowed}
use Rattle.index_message.specs.declared.fault.Allowed.TheVariants as allowed
use Rattle.index_message.specs.declared.resource.Method.{Method}
use Rattle.index_message.specs.declared.resource.Method.TheVariants.{Delete, Get, Head, Post, Put}
use Rattle.index_message.specs.declared.resource.Resource.{Resource}
use Rattle.index_message.specs.declared.resource.Resource.TheVariants as resource
use Rattle.index_message.specs.declared.resource.Route.{Route}
use Rattle.index_message.specs.declared.resource.Route.TheVariants as route

-- ---- methods

-- the method of a name in upper case (RFC 9110, section 9.1)
abbrev pub method_of : Bytes → Option Method
method_of name =
    if bytes_eq name (codes "DELETE") then Some Delete
    else if bytes_eq name (codes "GET") then Some Get
    else if bytes_eq name (codes "HEAD") then Some Head
    else if bytes_eq name (codes "POST") then Some Post
    else if bytes_eq name (codes "PUT") then Some Put
    else None

-- the methods that a resource has
abbrev pub allowed_of : Resource → Allowed
allowed_of (resource.File file) = allowed.Files
allowed_of resource.Requests = allowed.Requests
allowed_of resource.Simple = allowed.Reading
allowed_of resource.Root = allowed.Reading
allowed_of (resource.Project name) = allowed.Reading
allowed_of (resource.ProjectPage name) = allowed.Reading
allowed_of (resource.Name name) = allowed.Reading

-- `GET` and `HEAD` only read
abbrev pub is_reading : Method → Bool
is_reading Get = true
is_reading Head = true
is_reading Delete = false
is_reading Post = false
is_reading Put = false

-- `HEAD`, whose reply has no body (RFC 9110, section 9.3.2)
abbrev pub is_head : Method → Bool
is_head Head = true
is_head Get = false
is_head Delete = false
is_head Post = false
is_head Put = false

-- `PUT`, which creates a file if it is accepted (RFC 9110, section 9.3.4)
abbrev pub is_put : Method → Bool
is_put Put = true
is_put Get = false
is_put Head = false
is_put Delete = false
is_put Post = false

-- `POST`, which takes requests
abbrev pub is_post : Method → Bool
is_post Post = true
is_post Get = false
is_post Head = false
is_post Delete = false
is_post Put = false

-- the method is one of these
abbrev pub allows : Allowed → Method → Bool
allows allowed.Reading method = is_reading method
allows allowed.Files method = not (is_post method)
allows allowed.Requests method = is_post method

-- ---- paths (RFC 3986, section 3.3)

-- the path of a target: all of it up to the first question mark
abbrev pub path_of : Bytes → Bytes
path_of target = before_first (λ b. b == byte "?") target

-- the text before a slash, and the text behind it
abbrev pub before_slash : Bytes → Bytes
before_slash text = before_first (λ b. b == byte "/") text

-- the text behind the first slash
abbrev pub after_slash : Bytes → Bytes
after_slash text = after_first (λ b. b == byte "/") text

-- the text behind the first word of a path, which begins with a slash
abbrev pub tail_of : Bytes → Bytes
tail_of path = after_slash (after_slash path)

-- the first segment of a path, decoded (RFC 3986, section 2.1)
abbrev pub first_segment : Bytes → Bytes
first_segment tail = percent_decode (before_slash tail)

-- the file is a file name that spells another project (PEP 427, PEP 625)
abbrev pub is_file_of_other : Bytes → Bytes → Bool
is_file_of_other project file =
    option_map_or (λ spelled. not (bytes_eq spelled.project project)) (read_file_name file) false

-- A file of this project. A file of another project is not found there.
abbrev pub file_of_project : Bytes → Bytes → Option Resource
file_of_project project file =
    if is_file_of_other project file then None else Some (resource.File file)

-- a file of a project, from the segments of both
abbrev pub file_at : Bytes → Bytes → Option Resource
file_at project file = file_of_project (percent_decode project) (percent_decode file)

-- the resource of a route, with the segments behind the path's first word
abbrev pub resource_on : Route → Bytes → Option Resource
resource_on route.Simple tail = Some resource.Simple
resource_on route.Root tail = Some resource.Root
resource_on route.Project tail = Some (resource.Project (first_segment tail))
resource_on route.ProjectPage tail = Some (resource.ProjectPage (first_segment tail))
resource_on route.File tail = file_at (before_slash tail) (after_slash tail)
resource_on route.Name tail = Some (resource.Name (first_segment tail))
resource_on route.Requests tail = Some resource.Requests

-- the resource of a path
abbrev pub resource_at : Bytes → Option Resource
resource_at path = option_and_then (λ route. resource_on route (tail_of path)) (route_of path)

-- the path of a target has a route
abbrev pub has_route : Bytes → Bool
has_route target = is_some (route_of (path_of target))

-- the resource of a target, if that is UTF-8
unfoldable pub resource_of : Bytes → Option Resource
resource_of target = if is_utf8 target then resource_at (path_of target) else None
