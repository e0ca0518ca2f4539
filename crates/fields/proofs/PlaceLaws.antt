-- Where a part stands in the parts joined.
-- Assumes nothing.
use mathlib.Core.Path.{◌≡◌, refl, sym, ap, ◌∙◌}
use mathlib.Core.List.{List, [], ◌∷◌, ◌++◌, append-nil}
use Prim.Native.Nat.{ℕ, zero, suc, ◌+◌, ◌≤◌, ◌<◌}
use native.Mathlib.Omega.{arith}
use lib.ListN.{length, get_or, take, drop, length-append}
use lib.Seq.{take_at, drop-append-add}
use Rattle.text.specs.Split.{joined}
use Rattle.fields.specs.Fields.{part_start}

pub start_none : (ps : List (List ℕ)) → part_start ps 0 ≡ 0
unfolding part_start
start_none ps = refl

pub start_next : (p : List ℕ) (ps : List (List ℕ)) (i : ℕ) → part_start (p ∷ ps) (suc i) ≡ length p + 1 + part_start ps i
unfolding part_start
start_next p ps i = refl

joined_front : (b : ℕ) (p : List ℕ) (ps : List (List ℕ)) → (rest : List ℕ) × (joined b (p ∷ ps) ≡ p ++ rest)
unfolding joined
joined_front b p [] = ([], sym (append-nil p))
joined_front b p (q ∷ ps) = (b ∷ joined b (q ∷ ps), refl)

joined_next : (b : ℕ) (p q : List ℕ) (ps : List (List ℕ)) (n : ℕ) → drop (length p + 1 + n) (joined b (p ∷ (q ∷ ps))) ≡ drop n (joined b (q ∷ ps))
unfolding joined
joined_next b p q ps n =
    let e : length p + 1 + n ≡ length p + suc n = omega arith in
    ap (λ (m : ℕ). drop m (p ++ (b ∷ joined b (q ∷ ps)))) e ∙ drop-append-add p (b ∷ joined b (q ∷ ps)) (suc n)

-- A part's place in the parts joined selects it.
pub part_there : (b : ℕ) (ps : List (List ℕ)) (i : ℕ) → i < length ps → take (length (get_or ps i [])) (drop (part_start ps i) (joined b ps)) ≡ get_or ps i []
part_there b [] i h = absurd (omega arith)
part_there b (p ∷ ps) zero h =
    let f = joined_front b p ps in
    ap (λ (n : ℕ). take (length p) (drop n (joined b (p ∷ ps)))) (start_none (p ∷ ps)) ∙ ap (take (length p)) f.1 ∙ take_at p f.0 (length p) refl
part_there b (p ∷ []) (suc i) h = absurd (omega arith)
part_there b (p ∷ (q ∷ ps)) (suc i) h =
    ap (λ (k : List ℕ). take (length (get_or (q ∷ ps) i [])) k)
    (ap (λ (n : ℕ). drop n (joined b (p ∷ (q ∷ ps)))) (start_next p (q ∷ ps) i) ∙ joined_next b p q ps (part_start (q ∷ ps) i))
    ∙ part_there b (q ∷ ps) i (omega arith)

joined_size : (b : ℕ) (p q : List ℕ) (ps : List (List ℕ)) → length (joined b (p ∷ (q ∷ ps))) ≡ length p + suc (length (joined b (q ∷ ps)))
unfolding joined
joined_size b p q ps = length-append p (b ∷ joined b (q ∷ ps))

pub part_inside : (b : ℕ) (ps : List (List ℕ)) (i : ℕ) → i < length ps → part_start ps i + length (get_or ps i []) ≤ length (joined b ps)
part_inside b [] i h = absurd (omega arith)
part_inside b (p ∷ ps) zero h =
    let f = joined_front b p ps in
    let z = start_none (p ∷ ps) in
    let e = ap length f.1 ∙ length-append p f.0 in
    omega arith
part_inside b (p ∷ []) (suc i) h = absurd (omega arith)
part_inside b (p ∷ (q ∷ ps)) (suc i) h =
    let k = part_inside b (q ∷ ps) i (omega arith) in
    let z = start_next p (q ∷ ps) i in
    let e = joined_size b p q ps in
    omega arith
