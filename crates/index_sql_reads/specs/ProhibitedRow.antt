-- What the row of a prohibited name has in the columns of a held name.
use Rattle.std.specs.Prelude.{[], None}
use Rattle.index_rules.specs.Projects.{Project}

-- the values of a prohibited name's row: an empty text, zeros, and no upload
abbrev pub empty_project : Project
empty_project = record { shown = []; quota = 0; charge = 0; undeleted = 0; last_upload = None }
