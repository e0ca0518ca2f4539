-- What the answer about a line says that has got the line's number, and of a line that is whole or one refusal.
-- Assumes nothing.
use mathlib.Core.Path.{◌≡◌, refl, sym, ap}
use Prim.Native.Nat.{ℕ}
use native.Mathlib.Omega.{arith}
use Rattle.std.specs.Prelude.{Result, Ok, Err}
use Rattle.text.specs.inner.Faults.{in_line}
use Rattle.text.specs.Lines.{whole_or}
use Rattle.text.specs.declared.faults.Fault.{Fault}
use Rattle.text.specs.declared.lines.LineFault.{LineFault}

module _ {T R : Type 0} (line : ℕ) where
  pub lined_ok : (a : Result T R) (x : T) → in_line line a ≡ Ok x → a ≡ Ok x
  lined_ok (Ok y) x e = let z : ◌≡◌ {A = T} y x = cc in ap Ok z
  lined_ok (Err r) x e = let z : ◌≡◌ {A = ℕ} 0 1 = cc in absurd (omega arith)

  pub lined_err : (a : Result T R) (f : Fault R) → in_line line a ≡ Err f → (a ≡ Err f.refusal) × (f.line ≡ line)
  lined_err (Ok y) f e = let z : ◌≡◌ {A = ℕ} 0 1 = cc in absurd (omega arith)
  lined_err (Err r) f e =
      let z : ◌≡◌ {A = Fault R} (record { refusal = r; line = line }) f = cc in
      (ap (λ (g : Fault R). Err g.refusal) z, sym (ap (λ (g : Fault R). g.line) z))

module _ {R : Type 0} (otherwise : R) where
  pub whole_ok : (r : Result ℕ LineFault) (n : ℕ) → whole_or otherwise r ≡ Ok n → r ≡ Ok n
  whole_ok (Ok m) n e = let z : ◌≡◌ {A = ℕ} m n = cc in ap Ok z
  whole_ok (Err f) n e = let z : ◌≡◌ {A = ℕ} 0 1 = cc in absurd (omega arith)

  pub whole_err : (r : Result ℕ LineFault) (x : R) → whole_or otherwise r ≡ Err x → (f : LineFault) × (r ≡ Err f) × (x ≡ otherwise)
  whole_err (Ok m) x e = let z : ◌≡◌ {A = ℕ} 0 1 = cc in absurd (omega arith)
  whole_err (Err f) x e = let z : ◌≡◌ {A = R} otherwise x = cc in (f, refl, sym z)
