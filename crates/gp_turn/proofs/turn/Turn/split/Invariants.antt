use Rattle.gp_turn.proofs.turn.Turn.split.Given as goal

abbrev pub ghosts-cut_seat : goal.ghosts-cut_seat
ghosts-cut_seat g a = record { count = a._count }
