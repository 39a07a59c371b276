-- `admission::names` meets its contract: it is admitted, and then the id's bytes are compared.
use Rattle.std.specs.Prelude.{true}
use Rattle.std.proofs.Common.{sym}
use Rattle.basis.specs.Dialect.{mode_of}
use Rattle.ids.specs.IdLaws.{id-fits}
use Rattle.admission.specs.AdmissionLaws.{fit_parts}
use Rattle.admission.proofs.names.Goals as goal

pub same_parts-requires : goal.same_parts-requires
same_parts-requires c =
    let a = c.args in
    let g = id-fits (mode_of a.flags) a.part.now _ _ _ _ (fit_parts a.flags a.part.now true _ _ _ _ (sym c.in-Ok.ensures)) in
    (g.from.0, g.from.1, g.seqno.0, g.seqno.1)
