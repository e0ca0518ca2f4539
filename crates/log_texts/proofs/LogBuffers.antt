-- A buffer passes the test under a label count exactly if some accepted text gives it under that count (document 01: refusal 7).
-- Assumes nothing.
use Prim.Native.Nat.{ℕ, ◌≤◌, ◌<◌}
use mathlib.Core.Path.{◌≡◌, ◌∙◌}
use mathlib.Core.Logic.{◌↔◌}
use mathlib.Core.List.{List}
use lib.Dec.{T}
use lib.ListN.{length, get_or, take}
use Rattle.sets.specs.Sets.{members}
use Rattle.necklace.specs.Dag.{Dag}
use Rattle.text.specs.Walk.{accepted}
use Rattle.layout.specs.Layout.{most_labels, log_length}
use Rattle.log_line.specs.Step.{Step}
use Rattle.log_line.specs.Format.{Known, log_text}
use Rattle.log_store.specs.Buffer.{buffer_of}
use Rattle.log_buffer.specs.Meaning.{label_sets, log_of_room}
use Rattle.log_texts.specs.Given.{GivenLog}
use Rattle.log_buffer.specs.Valid.{is_log}
use Rattle.log_texts.specs.Spelled.{steps_of, text_of}
use Rattle.log_buffer.proofs.Sound.{sound_iff}
use Rattle.log_buffer.proofs.Meaning.{size_is}
use Rattle.log_texts.proofs.StepLaws.{no_step, accepted_whole}
use Rattle.log_texts.proofs.StepPlaces.{counted, steps_sound, labels_mean, preds_mean, places_whole, places_given}
use Rattle.log_texts.proofs.LogText.{known, text_accepted}

-- A buffer that begins with what an accepted text gives passes, whatever follows, under any label count.
pub given_passes : (count : ℕ) (b text : List ℕ) (k : Known) → log_text count text ≡ accepted k → log_length ≤ length b
    → take log_length b ≡ buffer_of k.steps → T (is_log count b)
given_passes count b text k reads long gives =
    (sound_iff count b).1 (steps_sound count b k.steps long (accepted_whole count text k reads) gives)

-- Such a buffer means the dag of the text's steps: as many vertices, their label sets, and the predecessors that each line names.
pub record Means (G : Dag) (xs : List Step) : Type 0 where
  pub size : G.size ≡ length xs
  pub labels : (v : ℕ) → v < length xs → G.labels v ≡ members most_labels (get_or xs v no_step).labels
  pub preds : (v : ℕ) → v < length xs → G.preds v ≡ (get_or xs v no_step).preds

pub given_means : (count : ℕ) (b text : List ℕ) (k : Known) → log_text count text ≡ accepted k → log_length ≤ length b
    → take log_length b ≡ buffer_of k.steps → Means (log_of_room b) k.steps
given_means count b text k reads long gives =
    let w = accepted_whole count text k reads in
    record {
      size = size_is b (label_sets b) ∙ counted count b k.steps long w gives;
      labels = labels_mean count b k.steps long w gives;
      preds = preds_mean count b k.steps long w gives;
    }

-- A buffer that passes begins with what its steps give,
pub steps_give : (count : ℕ) (b : List ℕ) → T (is_log count b) → take log_length b ≡ buffer_of (steps_of b)
steps_give count b t =
    places_given count b ((sound_iff count b).0 t)

-- and its text is accepted and says its steps.
pub text_says : (count : ℕ) (b : List ℕ) → count ≤ most_labels → T (is_log count b)
    → log_text count (text_of b) ≡ accepted (known (steps_of b))
text_says count b fit t = text_accepted count fit (steps_of b) (places_whole count b ((sound_iff count b).0 t))

pub log_buffers : (count : ℕ) (b : List ℕ) → count ≤ most_labels → T (is_log count b) ↔ GivenLog count b
log_buffers count b fit = (
  λ t. record {
    long = ((sound_iff count b).0 t).long;
    text = text_of b;
    known = known (steps_of b);
    reads = text_says count b fit t;
    gives = steps_give count b t;
  },
  λ g. given_passes count b g.text g.known g.reads g.long g.gives,
)
