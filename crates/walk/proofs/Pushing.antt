-- Messages pushed after messages: one after the other.
use mathlib.Core.Path.{◌≡◌, refl, ap, ◌∙◌}
use mathlib.Core.List.{List, [], ◌∷◌, ◌++◌}
use Rattle.messages.specs.declared.Message.{Message}
use Rattle.trace.specs.declared.Trace.{Trace}
use Rattle.trace.specs.inner.Traces.{pushed, pushed_all}

pub pushed_all-none : (t : Trace) → pushed_all [] t ≡ t
unfolding pushed_all
pushed_all-none t = refl

pub pushed_all-append : (a b : List Message) (t : Trace) → pushed_all (a ++ b) t ≡ pushed_all b (pushed_all a t)
unfolding pushed_all
pushed_all-append [] b t = refl
pushed_all-append (m ∷ ms) b t = pushed_all-append ms b (pushed m t)

-- an update, and what is said beyond it
pub pushed_all-told : (first : Message) (ms : List Message) (t : Trace) {t₁ t₂ : Trace} → t₁ ≡ pushed first t → t₂ ≡ pushed_all ms t₁ → t₂ ≡ pushed_all (first ∷ ms) t
unfolding pushed_all
pushed_all-told first ms t e f = f ∙ ap (pushed_all ms) e

-- a probe, what is said beyond it, and the response; or an update and a release
pub pushed_all-asked : (first last : Message) (ms : List Message) (t : Trace) {t₁ t₂ t₃ : Trace} → t₁ ≡ pushed first t → t₂ ≡ pushed_all ms t₁ → t₃ ≡ pushed last t₂
    → t₃ ≡ pushed_all (first ∷ (ms ++ (last ∷ []))) t
unfolding pushed_all
pushed_all-asked first last ms t e f g = g ∙ rw (pushed_all-append, ← e, ← f)
