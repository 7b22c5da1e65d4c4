-- Requests, once their head was read.
use Rattle.std.specs.Prelude.{List}
use Rattle.index_rules.specs.Maps.{Bytes}
use Rattle.index_message.specs.Fields.{Field}
use Rattle.index_message.specs.declared.resource.Method.{Method}
use Rattle.index_message.specs.declared.resource.Resource.{Resource}

-- the parts of a head: the name of its method, its target and its fields
pub record HeadParts : Type 0 where
  pub method : Bytes
  pub target : Bytes
  pub fields : List Field

-- the parts of a request's head
pub record HttpRequest : Type 0 where
  pub method : Method
  pub resource : Resource
  pub fields : List Field
