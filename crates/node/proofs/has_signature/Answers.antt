-- `node::has_signature` meets its contract.
use mathlib.Core.Path.{sym, ap, ◌∙◌}
use Rattle.basis.specs.declared.Mode.{Mode}
use Rattle.admission.specs.Admission.{is_signed}
use Rattle.node.proofs.has_signature.Goals as goal

pub returns-then-allows_unsigned : goal.returns-then-allows_unsigned
returns-then-allows_unsigned c = c.is_signed.ensures ∙ ap (λ (m : Mode). is_signed m c.args.part.now) c.mode_of.ensures

pub returns : goal.returns
returns c = sym (c.requires (sym c.allows_unsigned.ensures ∙ c.if-allows_unsigned.false))
