-- Where every verdict leaves one answer, and there is a verdict: the answer is x exactly where the verdict is that it is x.
use mathlib.Core.Path.{◌≡◌, sym, subst, ◌∙◌}
use mathlib.Core.Logic.{◌↔◌}

pub verdict_exactly : {A : Type 0} (Verdict : A → Type 0) (answer : A) → ((x : A) → Verdict x → answer ≡ x) → (x : A) × Verdict x → (x : A) → (answer ≡ x) ↔ Verdict x
verdict_exactly Verdict answer once j x = (λ e. subst Verdict (sym (once j.0 j.1) ∙ e) j.1, once x)
