use mathlib.Core.List.{append_assoc}
use Rattle.text.proofs.Cases.{title_room, netlist_text, emitted_text, emitted_few, emitted_room, emitted_long}
use Rattle.text.proofs.text.Text.emitted.Goals as goal

pub title-requires : goal.title-requires
title-requires c = title_room _ _ _ c.args.shape.there c.requires.room

pub net-requires : goal.net-requires
net-requires c =
    record {
      words_bound = emitted_few _ _ _ c.requires.net_value c.args.shape.there;
      long = emitted_long _ _ _ c.requires.net_value;
      room = rw c.title.ensures (emitted_room _ _ _ c.requires.net_value _ _ _ c.depth.ensures c.multiplications.ensures c.args.shape.there c.requires.room);
    }

pub returns : goal.returns
returns c =
    let e = emitted_text _ _ _ c.requires.net_value _ _ c.depth.ensures c.multiplications.ensures in
    rw (c.net.ensures, c.title.ensures, e, netlist_text _ _ c.args.shape.there, append_assoc)
