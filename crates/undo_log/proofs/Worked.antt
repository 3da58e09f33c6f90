-- The worked histories, each by computation. Assumes nothing.
use mathlib.Core.Path.{refl}
use Rattle.calculus.specs.All.{all}
use Rattle.calculus.specs.Cell.{is_cell, put}
use Rattle.calculus.specs.Closed.{tuples, identical}
use Rattle.calculus.specs.Table.{table}
use Rattle.calculus.specs.Fill.{count_of}
use Rattle.calculus.specs.Row.{cells_of}
use Rattle.instance.specs.Header.{arities_well_formed, header_well_formed}
use Rattle.instance.specs.Insert.{enterable, inserted, inserted_header, inserted_words}
use Rattle.instance.specs.Rows.{words_well_formed, rows_from, words_of}
use Rattle.instance.specs.Sound.{sound, rows}
use Rattle.instance.specs.Substitute.{substituted, substituted_words}
use Rattle.undo_log.specs.Places.{places_in, places_of, is_place, put_at}
use Rattle.undo_log.specs.Log.{entry_of, logged_log, logged_used, entry_well_formed, undone, undone_words, undone_used}
use Rattle.undo_log.specs.History.{step_answers, state_after, answers_by, history, rows_by, entries_by, struck, undo_by}
use Rattle.undo_log.specs.Worked.{AllHold, WorkedHistories}

pub worked_histories : WorkedHistories
unfolding AllHold all table tuples identical is_cell put count_of cells_of arities_well_formed header_well_formed enterable inserted inserted_header inserted_words words_well_formed rows_from words_of sound rows substituted substituted_words places_in places_of is_place put_at entry_of logged_log logged_used entry_well_formed undone undone_words undone_used step_answers state_after answers_by history rows_by entries_by struck undo_by
worked_histories = ((refl, refl), ((refl, refl), ((refl, refl), ((refl, refl), ((refl, refl), ((refl, refl), ((refl, refl), tt)))))))
