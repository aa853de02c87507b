use Rattle.std.proofs.Common.{◌∙◌, ap}
use Rattle.std.specs.List.{range_with_len}
use Rattle.group_check.proofs.BeginningLemmas.{all_may}
use Rattle.group_check.proofs.checking.Search.shareable.Goals as goal

pub returns-in-Jr : goal.returns-in-Jr
returns-in-Jr g c =
    let s = c.args.self.now in
    record {
      candidates = c.all-candidates.ensures ∙ ap (range_with_len 1) c.m.ensures.value ∙ all_may s.property s.committee (range_with_len 1 s.profile.now.m) c.in-Jr.is;
      valid = c.m.ensures.valid;
    }
