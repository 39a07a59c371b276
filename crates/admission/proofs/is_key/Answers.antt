-- `admission::is_key` meets its contract.
use Rattle.std.specs.Prelude.{Result, Ok, Err, ◌≡◌, refl}
use Rattle.std.specs.Result.{is_ok}
use Rattle.std.proofs.Common.{ap, ◌∙◌}
use Rattle.key.specs.declared.PublicKey.{PublicKey}
use Rattle.key.specs.declared.PublicKeyError.{PublicKeyError}
use Rattle.key.specs.Decode.{decode_protobuf}
use Rattle.admission.specs.Admission.{is_read, is_key}
use Rattle.admission.proofs.is_key.Goals as goal

read_ok : (r : Result PublicKey PublicKeyError) → is_ok r ≡ is_read r
read_ok (Ok key) = refl
read_ok (Err why) = refl

pub returns : goal.returns
unfolding is_key
returns c = c.is_ok.ensures.value ∙ ap is_ok c.decode_protobuf.ensures ∙ read_ok (decode_protobuf c.args.bytes.now)
