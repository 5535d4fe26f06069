-- The end of a command: its output, its exit status, and what it has read and written.
use Rattle.std.specs.Prelude.{◌≡◌, ℕ, List, false, Bool, true, if◌then◌else◌, ◌↔◌, ◌⊎◌, ◌||◌}
use Rattle.trlab_campaign.specs.{CheckOutput.IsCheckOutput, SweepOutput.IsSweepOutput, Device.FlushedOnce}
use Rattle.trlab_campaign.specs.{Output.{Outputs, IsShownOutput, every_from}, Writers.{AddsNone, bytes_of}}
use Rattle.trlab_campaign.specs.{SeriesOutput.IsSeriesOutput, Ending.{EngineEnds, LeavesWriter, WroteAtEnd}}
use Rattle.trlab_campaign.specs.declared.end.End.{End, TheVariants.{Done, Refused, Memory, DeviceFault}}
use Rattle.trlab_campaign.specs.declared.device.Sink as Sink
use Rattle.trlab_campaign.specs.declared.device.Source as Source
use Rattle.trlab_explain.specs.Explanations.{Explains, IsNumberPage}
use Rattle.trlab_command_line.specs.declared.arguments.explain.ExplainRequest.TheVariants.{Number, Text}
use Rattle.trlab_command_line.specs.declared.arguments.Request.{Request, TheVariants.{Check, Explain, Run}}
use Rattle.trlab_command_line.specs.declared.arguments.Request.TheVariants.{Series, Sweep}
use Rattle.trlab_command_line.specs.CommandLine.{reads_input, writes_at_once}
use Rattle.clap.specs.declared.error.kind.ErrorKind.{ErrorKind}
use Rattle.clap.specs.declared.error.kind.ErrorKind.TheVariants.{DisplayHelp, DisplayVersion, OutOfMemory}

-- The outputs of the commands.

-- the complete outputs of a command for a text on standard input: `check` writes a verdict, `run` the
-- pictures of a job at the steps that are shown, `sweep` a table of points, `series` a table of windows, and
-- `explain` an explanation of the text or of a number. They do not depend on the numbers of workers and
-- runners
abbrev pub output_of : Request → List ℕ → Outputs
output_of Check text = IsCheckOutput text
output_of (Run workers every from progress) text = IsShownOutput (every_from every from) text
output_of (Sweep runners workers progress) text = IsSweepOutput text
output_of (Series workers every from progress) text = IsSeriesOutput every from text
output_of (Explain (Text subject form)) text = Explains form subject text
output_of (Explain (Number topic number)) text = IsNumberPage topic number

-- the output if help or the version is asked for: any text; it does not count as the rejection of an input
abbrev pub IsHelp : Outputs
IsHelp rejected text = rejected ≡ false

-- The exit statuses.

-- the exit status of a command, from its end: 0 if the output for a valid input is complete, 1 if the output
-- for a rejected input is complete, 3 if an allocation failed, and 4 if reading or writing failed
abbrev pub status_of_end : End → ℕ
status_of_end Done = 0
status_of_end Refused = 1
status_of_end Memory = 3
status_of_end DeviceFault = 4

-- is `clap`'s error that help or the version was asked for?
abbrev pub asks_for_help : ErrorKind → Bool
asks_for_help DisplayHelp = true
asks_for_help DisplayVersion = true
asks_for_help _ = false

-- the exit status for `clap`'s error: 0 for help or the version, 3 if an allocation failed, and otherwise 2,
-- because the arguments are rejected
abbrev pub status_of_error : ErrorKind → ℕ
status_of_error DisplayHelp = 0
status_of_error DisplayVersion = 0
status_of_error OutOfMemory = 3
status_of_error _ = 2

-- the exit status after `clap`'s text was printed: 4 if help or the version was asked for and the writer
-- failed, and otherwise the status of `clap`'s error
abbrev pub status_of_print : ErrorKind → Bool → ℕ
status_of_print DisplayHelp failed = if failed then 4 else 0
status_of_print DisplayVersion failed = if failed then 4 else 0
status_of_print kind failed = status_of_error kind

-- The end of a command: its exit status, and what it has read and written.

-- the end of a request: `before` and `after` are the reader, `old` and `new` the writer
pub record RequestEnds {S K : Type 0} (source : Source.Ghosts S) (sink : Sink.Ghosts K)
    (request : Request) (end : End) (before after : S) (old new : K) : Type 0 where
  -- for a request that reads an input: this is an end of an engine with the outputs of the request
  pub engine : reads_input request ≡ true → EngineEnds source sink (output_of request) end before after old new
  -- for any other request: the writer is left as its output leaves it, whatever text there is to read
  pub page : reads_input request ≡ false
      → (text : List ℕ) → LeavesWriter sink (WroteAtEnd (output_of request text)) end old new
  -- the end is `DeviceFault` exactly if the reader or the writer has failed
  pub device : (end ≡ DeviceFault) ↔ ((source.failed after || sink.failed new) ≡ true)
  -- if an allocation failed, nothing was written, unless the output is written as it is made
  pub kept : writes_at_once request ≡ true → end ≡ Memory → AddsNone (bytes_of sink old) (bytes_of sink new)
  -- a request that reads no input leaves the reader unchanged
  pub unread : reads_input request ≡ false → after ≡ before

-- `status` is the exit status of a request's end, whichever end that is
pub record EndsWithStatus {S K : Type 0} (source : Source.Ghosts S) (sink : Sink.Ghosts K)
    (request : Request) (status : ℕ) (before after : S) (old new : K) : Type 0 where
  pub end : End
  pub status_of : status ≡ status_of_end end
  pub ended : RequestEnds source sink request end before after old new

-- the end of a command line that makes no request, because `clap` has an error of this kind: if the kind
-- asks for help or the version, this is written to the writer; otherwise the command line is rejected, and
-- nothing is written to the writer
pub record PrintEnds {K : Type 0} (sink : Sink.Ghosts K)
    (kind : ErrorKind) (status : ℕ) (old new : K) : Type 0 where
  -- the status of a rejected command line is 2, or 3 if an allocation failed while it was read
  pub rejected : asks_for_help kind ≡ false → status ≡ status_of_error kind
  -- the status of help is 0, 4 if the writer failed, or 3 if an allocation failed
  pub printed : asks_for_help kind ≡ true → (status ≡ 3) ⊎ (status ≡ status_of_print kind (sink.failed new))
  -- the status is 4 exactly if the writer has failed
  pub device : (status ≡ 4) ↔ (sink.failed new ≡ true)
  -- if an allocation failed, nothing was written
  pub kept : status ≡ 3 → AddsNone (bytes_of sink old) (bytes_of sink new)
  -- help was flushed once if the status is 0
  pub handed : asks_for_help kind ≡ true → status ≡ 0
      → FlushedOnce (sink.is_flushed new) (sink.flushes old) (sink.flushes new)
  -- a rejected command line leaves the writer unchanged
  pub silent : asks_for_help kind ≡ false → new ≡ old
