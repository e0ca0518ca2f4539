-- Which fault of a call is the first: its test holds, or it does not and a later one is the first, or none is left.
-- `fault_kit` answers the needs of a refusal in code whose tests stand in the list's order, `pass_kit` those behind all tests.
-- Assumes nothing.
use Prim.Native.Nat.{ℕ, ◌≤◌, ◌<◌}
use mathlib.Core.Path.{◌≡◌, refl, sym, ap, ◌∙◌, subst}
use mathlib.Core.Bool.{Bool, true, false, not, cond, ◌&&◌, ◌||◌}
use mathlib.Core.Option.{none, some}
use mathlib.Core.List.{List, [], ◌∷◌}
use native.Mathlib.Omega.{arith}
use borrow.Author.Tests.{lt-ltb, le-ltb, eqb-true, eqb-false}
use lib.Dec.{T, eqb, ltb}
use Rattle.answer.specs.declared.Answer.{Answer}
use Rattle.answer.specs.Answers.{accepted_with}
use Rattle.answer.specs.Faults.{Fault, when, first_fault, answer_or, kept_or}

-- ---- the ways through the list

-- The first fault is this answer.
pub record First (faults : List Fault) (answer : Answer) : Type 0 where
  pub is : first_fault faults ≡ some answer

-- There is a fault.
pub record Stopped (faults : List Fault) : Type 0 where
  pub answer : Answer
  pub first : First faults answer

-- There is none.
pub record Passed (faults : List Fault) : Type 0 where
  pub is : first_fault faults ≡ none

module _ (test : Bool) (answer : Answer) (faults : List Fault) where
  pub first_here : test ≡ true → First (when test answer ∷ faults) answer
  unfolding first_fault
  first_here e = record { is = rw e }

  pub first_later : (a : Answer) → test ≡ false → First faults a → First (when test answer ∷ faults) a
  unfolding first_fault
  first_later a e f = record { is = rw e f.is }

  pub stopped_here : test ≡ true → Stopped (when test answer ∷ faults)
  stopped_here e = record { answer = answer; first = first_here e }

  pub stopped_later : test ≡ false → Stopped faults → Stopped (when test answer ∷ faults)
  stopped_later e s = record { answer = s.answer; first = first_later s.answer e s.first }

  pub passed_later : test ≡ false → Passed faults → Passed (when test answer ∷ faults)
  unfolding first_fault
  passed_later e p = record { is = rw e p.is }

pub passed_all : Passed []
unfolding first_fault
passed_all = record { is = refl }

-- ---- the same for tests as the code has them

-- A length or a number below another.
module _ (n m : ℕ) (answer : Answer) (faults : List Fault) where
  module _ (h : n < m) where
    pub first_below : First (when (ltb n m) answer ∷ faults) answer
    first_below = first_here (ltb n m) answer faults (lt-ltb n m h)

    pub stopped_below : Stopped (when (ltb n m) answer ∷ faults)
    stopped_below = stopped_here (ltb n m) answer faults (lt-ltb n m h)

  module _ (h : m ≤ n) where
    pub first_past : (a : Answer) → First faults a → First (when (ltb n m) answer ∷ faults) a
    first_past a f = first_later (ltb n m) answer faults a (le-ltb n m h) f

    pub stopped_past : Stopped faults → Stopped (when (ltb n m) answer ∷ faults)
    stopped_past s = stopped_later (ltb n m) answer faults (le-ltb n m h) s

    pub passed_past : Passed faults → Passed (when (ltb n m) answer ∷ faults)
    passed_past p = passed_later (ltb n m) answer faults (le-ltb n m h) p

-- A number outside a range.
module _ (low n high : ℕ) (answer : Answer) (faults : List Fault) where
  abbrev outside : Bool
  outside = ltb n low || ltb high n

  under : n < low → outside ≡ true
  under h = rw (lt-ltb n low h)

  over : low ≤ n → high < n → outside ≡ true
  over l h = rw (le-ltb n low l, lt-ltb high n h)

  inside : low ≤ n → n ≤ high → outside ≡ false
  inside l h = rw (le-ltb n low l, le-ltb high n h)

  pub first_under : n < low → First (when (ltb n low || ltb high n) answer ∷ faults) answer
  first_under h = first_here outside answer faults (under h)

  pub stopped_under : n < low → Stopped (when (ltb n low || ltb high n) answer ∷ faults)
  stopped_under h = stopped_here outside answer faults (under h)

  pub first_over : low ≤ n → high < n → First (when (ltb n low || ltb high n) answer ∷ faults) answer
  first_over l h = first_here outside answer faults (over l h)

  pub stopped_over : low ≤ n → high < n → Stopped (when (ltb n low || ltb high n) answer ∷ faults)
  stopped_over l h = stopped_here outside answer faults (over l h)

  module _ (l : low ≤ n) (h : n ≤ high) where
    pub first_inside : (a : Answer) → First faults a → First (when (ltb n low || ltb high n) answer ∷ faults) a
    first_inside a f = first_later outside answer faults a (inside l h) f

    pub stopped_inside : Stopped faults → Stopped (when (ltb n low || ltb high n) answer ∷ faults)
    stopped_inside s = stopped_later outside answer faults (inside l h) s

    pub passed_inside : Passed faults → Passed (when (ltb n low || ltb high n) answer ∷ faults)
    passed_inside p = passed_later outside answer faults (inside l h) p

-- A test that a function made.
module _ (b test : Bool) (answer : Answer) (faults : List Fault) (is : b ≡ test) where
  module _ (e : b ≡ false) where
    pub first_denied : First (when (not test) answer ∷ faults) answer
    first_denied = first_here (not test) answer faults (ap not (sym is ∙ e))

    pub stopped_denied : Stopped (when (not test) answer ∷ faults)
    stopped_denied = stopped_here (not test) answer faults (ap not (sym is ∙ e))

  module _ (e : b ≡ true) where
    pub first_granted : (a : Answer) → First faults a → First (when (not test) answer ∷ faults) a
    first_granted a f = first_later (not test) answer faults a (ap not (sym is ∙ e)) f

    pub stopped_granted : Stopped faults → Stopped (when (not test) answer ∷ faults)
    stopped_granted s = stopped_later (not test) answer faults (ap not (sym is ∙ e)) s

    pub passed_granted : Passed faults → Passed (when (not test) answer ∷ faults)
    passed_granted p = passed_later (not test) answer faults (ap not (sym is ∙ e)) p

-- ---- what follows for the answer and for a room

module _ (faults : List Fault) where
  pub answer_refused : (refused r accepted : Answer) → r ≡ refused → First faults refused → r ≡ answer_or (first_fault faults) accepted
  unfolding answer_or
  answer_refused refused r accepted e f = rw f.is e

  pub answer_accepted : (r accepted : Answer) → Passed faults → r ≡ accepted → r ≡ answer_or (first_fault faults) accepted
  unfolding answer_or
  answer_accepted r accepted p e = rw p.is e

  pub room_kept : (old new : List ℕ) → Stopped faults → old ≡ kept_or (first_fault faults) old new
  unfolding kept_or
  room_kept old new s = rw s.first.is refl

  pub room_filled : (old new exit : List ℕ) → Passed faults → exit ≡ new → exit ≡ kept_or (first_fault faults) old new
  unfolding kept_or
  room_filled old new exit p e = rw p.is e

pub ruleset fault_kit = (
  answer_refused,
  room_kept,
  first_below,
  stopped_below,
  first_past,
  stopped_past,
  first_under,
  stopped_under,
  first_over,
  stopped_over,
  first_inside,
  stopped_inside,
  first_denied,
  stopped_denied,
  first_granted,
  stopped_granted,
)

pub ruleset pass_kit = (answer_accepted, room_filled, passed_all, passed_past, passed_inside, passed_granted)

-- ---- an accepted call has no fault

-- Each refusal's number is other than 0.
unfoldable pub numbered : List Fault → Bool
numbered [] = true
numbered (when test answer ∷ faults) = not (eqb answer.number 0) && numbered faults

pub accepted_passed : (faults : List Fault) (count : ℕ) → numbered faults ≡ true
    → T (eqb (answer_or (first_fault faults) (accepted_with count)).number 0) → Passed faults
unfolding numbered first_fault answer_or
accepted_passed [] count n t = passed_all
accepted_passed (when test answer ∷ faults) count n t = go test refl (eqb answer.number 0) refl n t (λ m u. accepted_passed faults count m u)
  where
    go : (b : Bool) → test ≡ b → (z : Bool) → eqb answer.number 0 ≡ z → (not z && numbered faults) ≡ true
        → T (eqb (answer_or (cond b (some answer) (first_fault faults)) (accepted_with count)).number 0)
        → (numbered faults ≡ true → T (eqb (answer_or (first_fault faults) (accepted_with count)).number 0) → Passed faults)
        → Passed (when test answer ∷ faults)
    go true e true f m u rest = absurd (subst T (sym m) tt)
    go true e false f m u rest = absurd (subst T f u)
    go false e true f m u rest = absurd (subst T (sym m) tt)
    go false e false f m u rest = passed_later test answer faults e (rest m u)

-- And where what follows the tests is a refusal too, the call is never accepted.
pub never_accepted : (faults : List Fault) (last : Answer) → numbered faults ≡ true → (last.number ≡ 0 → ⊥) → (answer_or (first_fault faults) last).number ≡ 0 → ⊥
unfolding numbered first_fault answer_or
never_accepted [] last n f e = f e
never_accepted (when test answer ∷ faults) last n f e = go test (eqb answer.number 0) refl n e (λ m u. never_accepted faults last m f u)
  where
    go : (b z : Bool) → eqb answer.number 0 ≡ z → (not z && numbered faults) ≡ true → (answer_or (cond b (some answer) (first_fault faults)) last).number ≡ 0
        → (numbered faults ≡ true → (answer_or (first_fault faults) last).number ≡ 0 → ⊥) → ⊥
    go b true z m u rest = absurd (subst T (sym m) tt)
    go true false z m u rest = eqb-false answer.number 0 z u
    go false false z m u rest = rest m u

-- ---- a call whose refusals have no place

-- Each refusal's byte is 0.
unfoldable pub placeless : List Fault → Bool
placeless [] = true
placeless (when test answer ∷ faults) = eqb answer.byte 0 && placeless faults

pub no_byte : (faults : List Fault) (accepted : Answer) → placeless faults ≡ true → accepted.byte ≡ 0 → (answer_or (first_fault faults) accepted).byte ≡ 0
unfolding placeless first_fault answer_or
no_byte [] accepted p e = e
no_byte (when test answer ∷ faults) accepted p e = go test (eqb answer.byte 0) refl p (λ q. no_byte faults accepted q e)
  where
    go : (b z : Bool) → eqb answer.byte 0 ≡ z → (z && placeless faults) ≡ true → (placeless faults ≡ true → (answer_or (first_fault faults) accepted).byte ≡ 0)
        → (answer_or (cond b (some answer) (first_fault faults)) accepted).byte ≡ 0
    go b false q m rest = absurd (subst T (sym m) tt)
    go true true q m rest = eqb-true answer.byte 0 q
    go false true q m rest = rest m

module _ (test : Bool) (answer : Answer) (faults : List Fault) (p : Passed (when test answer ∷ faults)) where
  -- Who passes all tests passes the first, and the others.
  pub passed_first : test ≡ false
  unfolding first_fault
  passed_first = go test refl p.is
    where
      go : (b : Bool) → test ≡ b → cond b (some answer) (first_fault faults) ≡ none → test ≡ false
      go true e q = let z : ◌≡◌ {A = ℕ} 0 1 = cc in absurd (omega arith)
      go false e q = e

  pub passed_others : Passed faults
  unfolding first_fault
  passed_others = record { is = go test passed_first p.is }
    where
      go : (b : Bool) → b ≡ false → cond b (some answer) (first_fault faults) ≡ none → first_fault faults ≡ none
      go true e q = absurd (subst T e tt)
      go false e q = q
