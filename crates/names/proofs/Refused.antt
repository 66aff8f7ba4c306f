-- Refusals by one test, and what follows from an answer.
use Rattle.std.proofs.Common.{◌≡◌, ℕ, Bool, true, false, IfOk, Some, None, Ok, Err, Option, Result, sym, refl, subst, arith}
use Rattle.names.specs.declared.error.Refusal.{Refusal}
use Rattle.names.specs.Refusals.{refused_if, Answers}

-- where one test refuses, another that holds then refuses alike
pub refused_too : (b b' : Bool) (e given : Refusal) → (b ≡ true → b' ≡ true) → refused_if b e None ≡ Some given → refused_if b' e None ≡ Some given
refused_too true true e given h r = r
refused_too true false e given h r = absurd (let z : ◌≡◌ {A = ℕ} 0 1 = cc (h refl) in omega arith)
refused_too false b' e given h r = absurd (let z : ◌≡◌ {A = ℕ} 0 1 = cc in omega arith)

pub not_refused : (b : Bool) (e : Refusal) → refused_if b e None ≡ None → b ≡ false
not_refused true e r = absurd (let z : ◌≡◌ {A = ℕ} 0 1 = cc in omega arith)
not_refused false e r = refl

pub was_refused : (b : Bool) (e given : Refusal) → refused_if b e None ≡ Some given → b ≡ true
was_refused true e given r = refl
was_refused false e given r = absurd (let z : ◌≡◌ {A = ℕ} 0 1 = cc in omega arith)

-- what holds of the value that a call answers by an equation
pub answers_law : {A Y : Type 0} (r : Result A Refusal) (refusal : Option Refusal) (v : A → Y) (y : Y) (P : Y → Type 0) → Answers r refusal (λ a. v a ≡ y) → P y → IfOk r (λ a. P (v a))
answers_law (Ok a) refusal v y P h p = subst P (sym h.1) p
answers_law (Err e) refusal v y P h p = tt
