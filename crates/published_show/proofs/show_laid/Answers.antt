-- `published_show::show_laid` meets its contract: the buffer is the one that the closure laid its text into.
-- Assumes nothing.
use Rattle.std.proofs.Math.Path.{refl}
use Rattle.published_show.proofs.show_laid.Goals as goal

pub returns : goal.returns
returns g c = (_, record { shown = _; shows = refl; left = _; met = c.lay-shown.ensures; leaves = refl })
