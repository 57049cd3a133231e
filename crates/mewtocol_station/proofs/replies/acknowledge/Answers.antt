-- A heading, closed. Assumes nothing.
use mathlib.Core.Path.{refl, sym}
use mathlib.Core.List.{[]}
use Rattle.text_rooms.proofs.Overwrite.{overwrite-none}
use Rattle.mewtocol_station.proofs.Texts.{good-put}
use Rattle.mewtocol_station.proofs.replies.acknowledge.Goals as goal

pub returns : goal.returns
returns c = let a = c.args in good-put a.room.now a.sender.header a.sender.own a.a a.b [] c.put_heading.ensures (sym (overwrite-none _ 6)) refl c.put_xor.ensures
