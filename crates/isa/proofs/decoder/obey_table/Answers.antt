use Rattle.std.proofs.Common.{◌<◌, rules}
use Rattle.isa.proofs.Codes.{decodes}
use Rattle.isa.proofs.RoundTrip.{in_table, encodes_back}
use Rattle.isa.proofs.decoder.obey_table.Goals as goal

pub returns : goal.returns
returns c =
    let byte : c.args.code < 256 = search rules in
    record {
      in_table = in_table c.args.code byte;
      only_one = decodes c.args.code;
      encodes_back = encodes_back c.args.code byte;
    }
