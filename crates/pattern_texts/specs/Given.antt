-- A buffer is what some accepted text gives (document 01: the denial of refusal 6).
use Rattle.std.specs.Prelude.{◌≡◌, List, ℕ, ◌≤◌, length, take}
use Rattle.text.specs.Walk.{accepted}
use Rattle.layout.specs.Layout.{pattern_length}
use Rattle.pattern_store.specs.Format.{Known, pattern_text}
use Rattle.pattern_store.specs.Buffer.{buffer_of}

pub record GivenPattern (buffer : List ℕ) : Type 0 where
  pub long : pattern_length ≤ length buffer
  pub text : List ℕ
  pub known : Known
  pub reads : pattern_text text ≡ accepted known
  pub gives : take pattern_length buffer ≡ buffer_of known
