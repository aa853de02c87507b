use Rattle.std.proofs.Common.{sym}
use Rattle.thiele_search.proofs.search.ThieleSearchNarrowing.matched.Goals as goal

pub returns : goal.returns
returns g c = c.matched.ensures c.args.self.now (sym (rw c.self.view_is at c.profile-profile.ensures))
