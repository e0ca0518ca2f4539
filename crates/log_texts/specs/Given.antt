-- A buffer is what some accepted text gives under a label count (document 01: the denial of refusal 7).
use Rattle.std.specs.Prelude.{◌≡◌, List, ℕ, ◌≤◌, length, take}
use Rattle.text.specs.Walk.{accepted}
use Rattle.layout.specs.Layout.{log_length}
use Rattle.log_line.specs.Format.{Known, log_text}
use Rattle.log_store.specs.Buffer.{buffer_of}

pub record GivenLog (count : ℕ) (buffer : List ℕ) : Type 0 where
  pub long : log_length ≤ length buffer
  pub text : List ℕ
  pub known : Known
  pub reads : log_text count text ≡ accepted known
  pub gives : take log_length buffer ≡ buffer_of known.steps
