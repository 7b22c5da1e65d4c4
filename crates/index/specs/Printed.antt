-- The text that the ends of the program print, and their causes.
use Rattle.std.specs.Prelude.{ℕ, false, List, [], codes, chars, ◌++◌, encode_utf8, flat_map}
use Rattle.std.specs.Prelude.{if◌then◌else◌, string_bytes}
use Rattle.std.specs.Char.{is_control}
use Rattle.std.specs.Fmt.{digits}
use Rattle.index_cli.specs.Printed.{line_end_text, serve_end_text}
use Rattle.index_rules.specs.Printed.{open_fault_text}
use Rattle.index.specs.declared.cause.Cause.{Cause}
use Rattle.index.specs.declared.cause.Cause.TheVariants as cause
use Rattle.index.specs.declared.end.End.{End}
use Rattle.index.specs.declared.end.End.TheVariants as end

-- the name of an end
abbrev pub end_text : End → List ℕ
end_text (end.Open fault) = open_fault_text fault
end_text (end.Lines early) = line_end_text early
end_text (end.Connections early) = serve_end_text early
end_text (end.Listen cause) = codes "Listen"
end_text end.OutOfMemory = codes "OutOfMemory"
end_text (end.Store cause) = codes "Store"
end_text (end.Volume cause path) = codes "Store"
end_text end.WriteFault = codes "WriteFault"

-- the words of a cause
abbrev pub cause_words : Cause → List ℕ
cause_words cause.InUse = codes "in use by another program"
cause_words cause.NoFile = codes "no such file"
cause_words cause.NoFolder = codes "no such folder"
cause_words cause.NotMade = codes "no such file, and none could be made"
cause_words cause.NoRight = codes "no right to read and write it"
cause_words cause.Folder = codes "a folder"
cause_words cause.NoRegularFile = codes "no regular file"
cause_words cause.SecondName = codes "a file with a second name"
cause_words cause.Beside = codes "it opens, but not with the log or journal beside it"
cause_words cause.NoDatabase = codes "no database that this program can read"
cause_words cause.Damaged = codes "damaged"
cause_words (cause.Object name) = codes "an object that no index has: "
cause_words cause.NotNew = codes "not new, and only a new file gets page sums"
cause_words cause.Emptied = codes "empty, but the log beside it is not"
cause_words cause.OtherTables = codes "tables that are not as an index has them"
cause_words cause.DiskFailed = codes "the disk failed"
cause_words cause.Full = codes "the disk or the file is full"
cause_words cause.Shut = codes "shut by an earlier failure of the disk"
cause_words cause.NoIndex = codes "not an index"
cause_words cause.HasTables = codes "a table of an index is there already"
cause_words cause.OtherVersion = codes "an index of another version"
cause_words cause.WithoutVolume = codes "no index of version 3, which has a volume"
cause_words cause.Link = codes "a link"
cause_words cause.TooShort = codes "too short for the places in the database"
cause_words cause.OtherVolume = codes "not the volume of the database"
cause_words cause.Taken = codes "there already, and only a new or empty file becomes a volume"
cause_words cause.NoDigest = codes "--token-sha256 is not 64 digits of 0-9a-f"
cause_words cause.EmptyToken = codes "--token-sha256 is the digest of the empty text"
cause_words cause.NoUserId = codes "--user is not 1 to 32 of a-z and 0-9"
cause_words cause.NoAddress = codes "not an IP address with a port"
cause_words cause.AddressInUse = codes "in use by another program"
cause_words cause.OtherMachine = codes "not an address of this machine"
cause_words cause.NoRightToPort = codes "no right to listen on this port"
cause_words cause.NotListened = codes "the system can't listen there"

-- the name of the object in a cause, if it has one
abbrev pub object_in : Cause → List ℕ
object_in (cause.Object name) = string_bytes name
object_in _ = []

-- a character as it is printed: a control character (0 to 31 and 127 to 159) as its number in hex
-- digits
abbrev pub escaped_char : ℕ → List ℕ
escaped_char c =
    if is_control c then codes "\\u{" ++ (digits 16 false c ++ codes "}") else encode_utf8 c

-- a text as it is printed
abbrev pub escaped : List ℕ → List ℕ
escaped text = flat_map escaped_char (chars text)

-- the words of a cause, and the name of its object
abbrev pub cause_text : Cause → List ℕ
cause_text cause = cause_words cause ++ escaped (object_in cause)
