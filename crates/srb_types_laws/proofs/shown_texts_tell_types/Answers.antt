use Rattle.std.proofs.Common.{[], ◌∷◌, ap, sym, ◌∙◌}
use Rattle.srb_terms.specs.declared.ty.Ty.TheVariants as ty
use Rattle.srb_terms.specs.declared.ty.Ty.TheVariants.{rolls-Any}
use Rattle.srb_terms.specs.declared.ty.Ty.TheOpen.{Ty-F}
use Rattle.srb_types.specs.Shown.{BOOLEAN, FALSE, TRUE, union_text, shown}
use Rattle.srb_types_laws.proofs.Layers.{shown_roll}
use Rattle.srb_types_laws.proofs.Parts.{is-well}
use Rattle.srb_types_laws.proofs.Inclusions.{class-shown}
use Rattle.srb_types_laws.proofs.Telling.{shown-tells}
use Rattle.srb_types_laws.proofs.shown_texts_tell_types.Goals as goal

pub returns-clause-types : goal.returns-clause-types
returns-clause-types c L t u laws names n m = shown-tells L laws names t u (is-well L t n) (is-well L u m)

pub returns-clause-parts : goal.returns-clause-parts
returns-clause-parts c L laws names p q f g a b h k = shown-tells L laws names p q (record { fitting = f; arranged = a }) (record { fitting = g; arranged = b })

pub returns-clause-boolean : goal.returns-clause-boolean
returns-clause-boolean c = class-shown BOOLEAN ∙ sym (ap shown (sym (rolls-Any (ty.Class FALSE ∷ ty.Class TRUE ∷ [])))
    ∙ shown_roll (Ty-F.Any (ty.Class FALSE ∷ ty.Class TRUE ∷ []))
    ∙ (λ i. union_text (class-shown FALSE i ∷ class-shown TRUE i ∷ [])))
