-- Where reading stops: at the end of a field that is a number, else at the first byte after which no number up to the limit can follow.
-- Assumes nothing.
use mathlib.Core.Path.{◌≡◌, refl, sym, ap, ◌∙◌, subst}
use mathlib.Core.Bool.{Bool, true, false}
use mathlib.Core.List.{List, [], ◌∷◌, ◌++◌, append-nil, append_assoc}
use Rattle.std.specs.Prelude.{Option, Some, None, Result, Ok, Err}
use Prim.Native.Nat.{ℕ, zero, suc, ◌+◌, ◌-◌, ◌*◌, ◌<◌}
use native.Mathlib.Omega.{arith}
use borrow.Author.Tests.{ne_eqb, eqb-true, eqb-false, leb-true, leb-false}
use lib.Dec.{eqb, leb}
use lib.ListN.{length, take, length-append}
use Rattle.numbers.specs.Numbers.{digit, value_from, decimal, stop_of, read_answer, end_of}
use Rattle.numbers.specs.Stops.{NoneFollows, SomeFollows, StopSays, at_end, at_once, at_byte}
use Rattle.numbers.proofs.Fronts.{Fronts, fronts_none, Stops, stops_digit, stops_large, stops_zero, goes_on, stop_there, stop_end, take_front, take_through, some_of}

-- A byte after which no number can follow, or a front that is one byte longer.
data Byte (most : ℕ) (q : List ℕ) (b : ℕ) : Type 0 where
  stop : Stops most q b → Byte most q b
  on : Fronts most (q ++ (b ∷ [])) → Byte most q b

positive : (k : ℕ) → (k ≡ 0 → ⊥) → 0 < k
positive zero c = absurd (c refl)
positive (suc k) c = omega arith

byte_of : (most : ℕ) (q : List ℕ) (b : ℕ) → Fronts most q → Byte most q b
byte_of most q b f = go (digit b) refl (eqb (value_from 0 q) 0) refl (eqb (length q) 0) refl (leb (value_from 0 q * 10 + (b - 48)) most) refl
  where
    go : (d : Bool) → digit b ≡ d → (z : Bool) → eqb (value_from 0 q) 0 ≡ z → (y : Bool) → eqb (length q) 0 ≡ y
        → (l : Bool) → leb (value_from 0 q * 10 + (b - 48)) most ≡ l → Byte most q b
    go false d z zz y yy l ll = stop (stops_digit most q b f d)
    go true d true zz false yy l ll = stop (stops_zero most q b f (eqb-true (value_from 0 q) 0 zz) (positive (length q) (eqb-false (length q) 0 yy)))
    go true d true zz true yy false ll = stop (stops_large most q b f (leb-false (value_from 0 q * 10 + (b - 48)) most ll))
    go true d true zz true yy true ll = on (goes_on most q b f d (λ e. eqb-true (length q) 0 yy) (leb-true (value_from 0 q * 10 + (b - 48)) most ll))
    go true d false zz y yy false ll = stop (stops_large most q b f (leb-false (value_from 0 q * 10 + (b - 48)) most ll))
    go true d false zz y yy true ll = on (goes_on most q b f d (λ e. absurd (eqb-false (value_from 0 q) 0 zz e)) (leb-true (value_from 0 q * 10 + (b - 48)) most ll))

-- Reading goes through the whole field, or halts at a byte.
data Run (most : ℕ) (f : List ℕ) : Type 0 where
  through : Fronts most f → Run most f
  halts : (p : List ℕ) (b : ℕ) (rest : List ℕ) → f ≡ p ++ (b ∷ rest) → Fronts most p → Stops most p b → Run most f

run : (most : ℕ) (m q : List ℕ) → Fronts most q → Run most (q ++ m)
run most [] q f = through (subst (Fronts most) (sym (append-nil q)) f)
run most (b ∷ m) q f = go (byte_of most q b f) (λ g. run most m (q ++ (b ∷ [])) g)
  where
    go : Byte most q b → (Fronts most (q ++ (b ∷ [])) → Run most ((q ++ (b ∷ [])) ++ m)) → Run most (q ++ (b ∷ m))
    go (stop s) rest = halts q b m refl f s
    go (on g) rest = subst (Run most) (append_assoc q (b ∷ []) m) (rest g)

stopped_number : (o : Option ℕ) (s k : ℕ) → read_answer o s ≡ Err k → (o ≡ None) × (s ≡ k)
stopped_number None s k e = (refl, cc)
stopped_number (Some n) s k e = let z : ◌≡◌ {A = ℕ} 0 1 = cc in absurd (omega arith)

-- The two numbers of a reading that ended.
abbrev pub value_in : Result (ℕ × ℕ) ℕ → ℕ
value_in (Ok p) = p.0
value_in (Err k) = 0

abbrev pub stop_in : Result (ℕ × ℕ) ℕ → ℕ
stop_in (Ok p) = p.1
stop_in (Err k) = 0

ended_number : (o : Option ℕ) (s n k : ℕ) → read_answer o s ≡ Ok (n, k) → (o ≡ Some n) × (s ≡ k)
ended_number None s n k e = let z : ◌≡◌ {A = ℕ} 0 1 = cc in absurd (omega arith)
ended_number (Some m) s n k e = (ap (λ (j : ℕ). Some j) (ap value_in e), ap stop_in e)

ended_at : (k v : ℕ) → end_of (suc k) v ≡ Ok (v, suc k)
ended_at k v = rw (ne_eqb (suc k) 0 (λ e. omega arith)) refl

pub stops : (most : ℕ) (f : List ℕ) → StopSays most f (decimal most f) (stop_of most f)
stops most f = go (run most f [] (fronts_none most))
  where
    says : (o : Option ℕ) (s : ℕ) → decimal most f ≡ o → stop_of most f ≡ s → StopSays most f o s → StopSays most f (decimal most f) (stop_of most f)
    says o s e g t = rw (e, g) t

    whole : (l : List ℕ) → f ≡ l → Fronts most l → StopSays most f (decimal most f) (stop_of most f)
    whole [] e g =
        let r = stopped_number (decimal most []) (stop_of most []) 0 (stop_end most [] g) in
        says None 0 (ap (decimal most) e ∙ r.0) (ap (stop_of most) e ∙ r.1) (at_once e)
    whole (x ∷ xs) e g =
        let t = ap (λ (l : List ℕ). read_answer (decimal most l) (stop_of most l)) (sym (append-nil (x ∷ xs))) ∙ stop_end most (x ∷ xs) g ∙ ended_at (length xs) (value_from 0 (x ∷ xs)) in
        let r = ended_number (decimal most (x ∷ xs)) (stop_of most (x ∷ xs)) (value_from 0 (x ∷ xs)) (length (x ∷ xs)) t in
        says (Some (value_from 0 (x ∷ xs))) (length f) (ap (decimal most) e ∙ r.0) (ap (stop_of most) e ∙ r.1 ∙ ap length (sym e)) at_end

    go : Run most f → StopSays most f (decimal most f) (stop_of most f)
    go (through g) = whole f refl g
    go (halts p b rest e g s) =
        let t = stopped_number (decimal most (p ++ (b ∷ rest))) (stop_of most (p ++ (b ∷ rest))) (length p) (stop_there most p b rest g s) in
        let k = ap length e ∙ length-append p (b ∷ rest) in
        says None (length p) (ap (decimal most) e ∙ t.0) (ap (stop_of most) e ∙ t.1) (at_byte (omega arith) follows_none follows_some)
      where
        follows_none : NoneFollows most (take (suc (length p)) f)
        follows_none more =
            ap (λ (l : List ℕ). decimal most (take (suc (length p)) l ++ more)) e ∙ ap (λ (l : List ℕ). decimal most (l ++ more)) (take_through p b rest)
            ∙ ap (decimal most) (append_assoc p (b ∷ []) more) ∙ s.none_follows more

        follows_some : (j : ℕ) → j < length p → SomeFollows most (take (suc j) f)
        follows_some j h =
            let q : take (suc j) f ≡ take (suc j) p = ap (take (suc j)) e ∙ take_front p (b ∷ rest) (suc j) (omega arith) in
            let n = some_of most (decimal most (take (suc j) p)) (g.number j h) in
            record { rest = []; value = n.0; reads = ap (decimal most) (append-nil (take (suc j) f)) ∙ ap (decimal most) q ∙ n.1 }
