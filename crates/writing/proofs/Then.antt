-- A text put behind another is put with it: the law that joins what is written.
-- Assumes nothing.
use Prim.Native.Nat.{ℕ}
use mathlib.Core.Path.{sym, ap, ◌∙◌}
use mathlib.Core.List.{List, ◌++◌}
use native.Mathlib.Omega.{arith}
use lib.ListN.{length-append}
use lib.Seq.{sets}
use Rattle.writing.specs.Put.{Put}
use Rattle.writing.proofs.PutLaws.{laid_both}

pub then : (s t l m new : List ℕ) (at k r : ℕ) → Put s at l k m → Put t k m r new → Put (s ++ t) at l r new
then s t l m new at k r a b = record {
  laid = b.laid ∙ ap (λ (z : List ℕ). sets z k t) a.laid ∙ ap (λ (i : ℕ). sets (sets l at s) i t) a.next ∙ sym (laid_both l s t at);
  next = (let e = length-append s t in let f = a.next in let g = b.next in omega arith);
}
