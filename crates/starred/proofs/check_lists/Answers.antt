use Rattle.std.proofs.Common.{rules}
use Rattle.starred.proofs.Laws.{each}
use Rattle.starred.proofs.check_lists.Goals as goal

pub check_list-requires : goal.check_list-requires
check_list-requires c = each _ c.requires c.loop-list.list-index (search rules)
