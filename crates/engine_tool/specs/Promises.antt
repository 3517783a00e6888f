-- What the top call promises.
use Rattle.std.specs.Prelude.{◌≡◌, ◌≢◌, ℕ, false, ◌<◌, ◌⊎◌, List, length, take, codes, Option, Some, None, Ok, IsTrue}
use Rattle.std.specs.Io.KnownBytes.{Appends, IsAtEnd}
use Rattle.stream_core.specs.Faults.{Rose}
use Rattle.stream_core.specs.Files.{Files}
use Rattle.stream_core.specs.Names.{now_file_name}
use Rattle.command_words.specs.Commands.{Command}
use Rattle.table_core.specs.Tables.{Stored}
use Rattle.database_core.specs.Saving.{IsWritten}
use Rattle.database_core.specs.TableFiles.{Same, SameBut, SameRows, WritesTable}
use Rattle.table_commands.specs.declared.databases.Found.{Found}
use Rattle.table_commands.specs.Databases.{TableStep, definition_of}
use Rattle.table_commands.specs.Refusals.{usage_line}
use Rattle.table_commands.specs.Saving.{Answer}
use Rattle.engine_tool.specs.Commands.{reads_files, reads_input, saves}
use Rattle.engine_tool.specs.Replies.{Reply, Replies, Means, RefusesText, RefusesFiles, RefusesBoth}

-- What contracts see of a store and an input: the files and the bytes that are left, if they are told, and how many calls of
-- each have failed.
pub record Inside : Type 0 where
  pub files : Option Files
  pub input : Option (List ℕ)
  pub store_faults : ℕ
  pub input_faults : ℕ

-- the same, and what contracts see of an output: the bytes that it took, if they are told, and how many calls have failed
pub record Outside : Type 0 where
  pub inside : Inside
  pub output : Option (List ℕ)
  pub output_faults : ℕ

-- The contents are these, as far as the command reads them.
pub record Told (command : Option Command) (before : Inside) (files : Files) (text : List ℕ) : Type 0 where
  pub folder : IsTrue (reads_files command) → before.files ≡ Some files
  pub given : IsTrue (reads_input command) → before.input ≡ Some text

-- the store tells its files, and they are these
abbrev pub FilesAre : Option Files → Files → Type 0
FilesAre None files = ⊥
FilesAre (Some held) files = Same held files

-- the files that may change: none, or those that a save of the table writes, where the schema has such a table
abbrev pub MayChange : Option (List ℕ) → Files → List ℕ → Type 0
MayChange None files name = ⊥
MayChange (Some table) files name = (found : Found) × TableStep files table (Ok found) × WritesTable (definition_of found) files name

abbrev pub ChangesOnly : Option (List ℕ) → Option Files → Option Files → Type 0
ChangesOnly saved None after = after ≡ None
ChangesOnly saved (Some files) None = ⊥
ChangesOnly saved (Some files) (Some held) = (name : List ℕ) → (MayChange saved files name → ⊥) → held name ≡ files name

-- a count of failed calls rose
abbrev pub StoreRose : Inside → Inside → Type 0
StoreRose before after = Rose before.store_faults after.store_faults

abbrev pub InputRose : Inside → Inside → Type 0
InputRose before after = Rose before.input_faults after.input_faults

abbrev pub OutputRose : Outside → Outside → Type 0
OutputRose before after = Rose before.output_faults after.output_faults

abbrev pub SomeRose : Outside → Outside → Type 0
SomeRose before after = StoreRose before.inside after.inside ⊎ InputRose before.inside after.inside ⊎ OutputRose before after

-- no call of the store failed; the input is as it was
abbrev pub StoreKept : Inside → Inside → Type 0
StoreKept before after = after.store_faults ≡ before.store_faults

abbrev pub InputKept : Inside → Inside → Type 0
InputKept before after = (after.input ≡ before.input) × (after.input_faults ≡ before.input_faults)

-- no call failed
pub record NoneFailed (before after : Outside) : Type 0 where
  pub store : after.inside.store_faults ≡ before.inside.store_faults
  pub input : after.inside.input_faults ≡ before.inside.input_faults
  pub output : after.output_faults ≡ before.output_faults

-- no call of the store or the input failed
pub record NoneInside (before after : Inside) : Type 0 where
  pub store : after.store_faults ≡ before.store_faults
  pub input : after.input_faults ≡ before.input_faults

-- the output took the text
abbrev pub Took : Outside → Outside → List ℕ → Type 0
Took before after text = Appends before.output after.output text

-- the output took a proper prefix of the text, since a write failed
pub record IsCutOff (before after : Outside) (text : List ℕ) : Type 0 where
  pub fault : OutputRose before after
  pub count : ℕ
  pub short : count < length text
  pub taken : Took before after (take count text)

-- the output took the text, and no write failed; or it took a proper prefix of the text, since one failed
abbrev pub Says : Outside → Outside → List ℕ → Type 0
Says before after line = (Took before after line × (after.output_faults ≡ before.output_faults)) ⊎ IsCutOff before after line

-- What stands behind status 3. A call of the store failed and none of the input, or the other way round, and the line that
-- says so was written or cut off. Or only a write failed, and the reply or the line `memory` was cut off.
pub data IsFault (command : Option Command) (before after : Outside) : Type 0 where
  store : IsTrue (reads_files command) → StoreRose before.inside after.inside → after.inside.input_faults ≡ before.inside.input_faults → Says before after (codes "fault: store\n") → IsFault command before after
  input : IsTrue (reads_input command) → InputRose before.inside after.inside → after.inside.store_faults ≡ before.inside.store_faults → Says before after (codes "fault: input\n") → IsFault command before after
  reply : (written : List ℕ) → NoneInside before.inside after.inside → IsCutOff before after written
      → ((files : Files) (text : List ℕ) → Told command before.inside files text → (reply : Reply) × Replies command files text reply × (written ≡ reply.text))
      → IsFault command before after
  memory : NoneInside before.inside after.inside → IsCutOff before after (codes "memory\n") → IsFault command before after

-- the line for words that denote no command was cut off, or the line that says want of memory
abbrev pub IsCutUsage : Outside → Outside → Type 0
IsCutUsage before after = IsCutOff before after usage_line ⊎ IsCutOff before after (codes "memory\n")

-- the command's answer, where it has one, leaves these files
abbrev pub Leaves : Option Command → Files → List ℕ → Files → Type 0
Leaves None files text held = ⊥
Leaves (Some command) files text held = (answer : Answer) × Means command files text (Ok answer) × Same answer.files held

-- The files are those with the named table saved: of some columns; and of the columns of the command's answer, if what it reads is told.
pub record HaveSaved (command : Option Command) (table : List ℕ) (before : Inside) (files full : Files) : Type 0 where
  pub found : Found
  pub named : TableStep files table (Ok found)
  pub columns : List Stored
  pub written : IsWritten files (definition_of found) columns full
  pub leaves : (text : List ℕ) → Told command before files text → Leaves command files text full

-- What became of a table where the command that saves it did not end with status 0: its rows stand as they did; or all was
-- saved but for the now file, whose save failed; or all was saved, and the closing line was not taken.
pub data AfterRefusal (command : Option Command) (table : List ℕ) (before after : Outside) (files held : Files) : Type 0 where
  same : SameRows held files → AfterRefusal command table before after files held
  switch : StoreRose before.inside after.inside → (full : Files) → (saved : HaveSaved command table before.inside files full)
      → SameBut (now_file_name (definition_of saved.found).name) held full → AfterRefusal command table before after files held
  line : OutputRose before after → HaveSaved command table before.inside files held → AfterRefusal command table before after files held

-- The promises of a call whose words denote this command, or none.
pub record Promises (command : Option Command) (before after : Outside) (status : ℕ) : Type 0 where
  -- The reply is the command's, unless a call failed or memory ran out.
  pub reply : (files : Files) (text : List ℕ) → Told command before.inside files text → status ≢ 3 → status ≢ 6 →
      (reply : Reply) × Replies command files text reply × (status ≡ reply.status) × Took before after reply.text
      × (before.inside.files ≡ Some files → FilesAre after.inside.files reply.files)
  -- For words that denote no command the usage line is written, unless a write fails or memory runs out. No other words end with
  -- status 2. The store and the input stay as they were.
  pub usage : command ≡ None → ((status ≡ 2) × Took before after usage_line) ⊎ ((status ≡ 3) × IsCutUsage before after) ⊎ (status ≡ 6)
  pub only_usage : status ≡ 2 → command ≡ None
  pub quiet : command ≡ None → after.inside ≡ before.inside
  -- An input that the command reads is read to its end if the status is 0. Any other input is left as it is.
  pub whole : IsTrue (reads_input command) → status ≡ 0 → IsAtEnd after.inside.input
  pub unread : reads_input command ≡ false → after.inside.input ≡ before.inside.input
  -- No load fails for a text that is refused whatever the files hold, so none is made. The input is left for files that are
  -- refused whatever it holds.
  pub unasked : (text : List ℕ) → before.inside.input ≡ Some text → RefusesText command text → StoreKept before.inside after.inside
  pub unheard : (files : Files) → before.inside.files ≡ Some files → RefusesFiles command files → InputKept before.inside after.inside
  -- A text that is refused for what the files hold is judged as soon as it is read: if a load failed, the text was not read.
  pub judged : (files : Files) (text : List ℕ) → Told command before.inside files text → RefusesBoth command files text → StoreKept before.inside after.inside ⊎ InputKept before.inside after.inside
  -- Only files of the saved table change, and its rows change only if the status is 0, with two exceptions.
  pub changes : ChangesOnly (saves command) before.inside.files after.inside.files
  pub kept : (table : List ℕ) (files held : Files) → saves command ≡ Some table → before.inside.files ≡ Some files → after.inside.files ≡ Some held →
      status ≢ 0 → AfterRefusal command table before after files held
  -- Status 3 comes if and only if a call failed.
  pub fault : status ≡ 3 → IsFault command before after
  pub calm : status ≢ 3 → NoneFailed before after
  -- Want of memory is said, and nothing else.
  pub memory : status ≡ 6 → Took before after (codes "memory\n")
  -- If no call failed, the status is the reply's, unless memory ran out.
  pub complete : (SomeRose before after → ⊥) → (files : Files) (text : List ℕ) → Told command before.inside files text →
      (status ≡ 6) ⊎ ((reply : Reply) × Replies command files text reply × (status ≡ reply.status))
