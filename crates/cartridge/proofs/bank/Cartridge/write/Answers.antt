-- The message is the head, the payload, its checksum and the end.
use Rattle.std.proofs.Common.{append_assoc, arith, rules}
use Rattle.cartridge.proofs.Voices.{all_data}
use Rattle.cartridge.proofs.bank.Cartridge.write.Goals as goal

pub returns-clause-message : goal.returns-clause-message
returns-clause-message c =
    let packed = c.payload-payload.ensures.packed in
    record {
      payload = c.payload-payload.result.now;
      packed = packed;
      frame = record {
        sixteen = omega arith;
        size = packed.size;
        bytes = all_data _ _ packed;
        check = c.checksum.result;
        checked = c.checksum.ensures.checked;
        spelled = search (rules, append_assoc);
      };
    }
