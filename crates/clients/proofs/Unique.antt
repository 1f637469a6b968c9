-- Each public function promises one outcome: its contract is an equation, or several, between what it gives or leaves and a definition. One law, and a line for each function.
-- `lent::event` and `row::acknowledge` are not here but in Lent.antt, over promises written out; the exports promise what mfp does (mfp_c, Same.antt). Assumes nothing.
use mathlib.Core.Path.{◌≡◌, sym, ◌∙◌}
use Rattle.clients.specs.Unique.{FixesResult, FixesBuffer}
use Rattle.timer.proofs.divisor_of.Reads as timer-divisor-of
use Rattle.timer.proofs.Timer.fresh.Reads as timer-Timer-fresh
use Rattle.timer.proofs.Timer.reset.Reads as timer-Timer-reset
use Rattle.timer.proofs.Timer.counts_events.Reads as timer-Timer-counts-events
use Rattle.timer.proofs.Timer.delays.Reads as timer-Timer-delays
use Rattle.timer.proofs.Timer.measures_pulses.Reads as timer-Timer-measures-pulses
use Rattle.timer.proofs.Timer.goes.Reads as timer-Timer-goes
use Rattle.timer.proofs.Timer.is_due.Reads as timer-Timer-is-due
use Rattle.timer.proofs.Timer.pulse.Reads as timer-Timer-pulse
use Rattle.timer.proofs.Timer.clock.Reads as timer-Timer-clock
use Rattle.timer.proofs.Timer.control.Reads as timer-Timer-control
use Rattle.timer.proofs.Timer.write.Reads as timer-Timer-write
use Rattle.timer.proofs.Timer.keeps_rule.Reads as timer-Timer-keeps-rule
use Rattle.channels.proofs.channel_of.Reads as channels-channel-of
use Rattle.channels.proofs.set_of.Reads as channels-set-of
use Rattle.channels.proofs.only_if.Reads as channels-only-if
use Rattle.channels.proofs.half_of.Reads as channels-half-of
use Rattle.channels.proofs.with_half.Reads as channels-with-half
use Rattle.bits.proofs.bit_value.Reads as bits-bit-value
use Rattle.bits.proofs.number_from.Reads as bits-number-from
use Rattle.bits.proofs.four_bytes.Reads as bits-four-bytes
use Rattle.countdown.proofs.clocks.Reads as countdown-clocks
use Rattle.interrupts.proofs.software_end.Reads as interrupts-software-end
use Rattle.interrupts.proofs.Interrupts.clear.Reads as interrupts-Interrupts-clear
use Rattle.interrupts.proofs.Interrupts.written_out.Reads as interrupts-Interrupts-written-out
use Rattle.interrupts.proofs.Interrupts.read.Reads as interrupts-Interrupts-read
use Rattle.interrupts.proofs.Interrupts.write.Reads as interrupts-Interrupts-write
use Rattle.interrupts.proofs.Interrupts.raise.Reads as interrupts-Interrupts-raise
use Rattle.interrupts.proofs.Interrupts.keeps_rule.Reads as interrupts-Interrupts-keeps-rule
use Rattle.lines.proofs.Lines.fresh.Reads as lines-Lines-fresh
use Rattle.lines.proofs.Lines.written_out.Reads as lines-Lines-written-out
use Rattle.lines.proofs.Lines.reset.Reads as lines-Lines-reset
use Rattle.lines.proofs.Lines.read.Reads as lines-Lines-read
use Rattle.lines.proofs.Lines.write.Reads as lines-Lines-write
use Rattle.lines.proofs.Lines.with_level.Reads as lines-Lines-with-level
use Rattle.lines.proofs.Lines.with_input.Reads as lines-Lines-with-input
use Rattle.timers.proofs.Timers.fresh.Reads as timers-Timers-fresh
use Rattle.timers.proofs.Timers.reset.Reads as timers-Timers-reset
use Rattle.timers.proofs.Timers.tcdcr.Reads as timers-Timers-tcdcr
use Rattle.timers.proofs.Timers.read.Reads as timers-Timers-read
use Rattle.timers.proofs.Timers.write.Reads as timers-Timers-write
use Rattle.timers.proofs.Timers.outputs.Reads as timers-Timers-outputs
use Rattle.timers.proofs.Timers.keeps_rule.Reads as timers-Timers-keeps-rule
use Rattle.signals.proofs.input_is_active.Reads as signals-input-is-active
use Rattle.signals.proofs.Change.input_becomes.Reads as signals-Change-input-becomes
use Rattle.signals.proofs.Change.line_raises.Reads as signals-Change-line-raises
use Rattle.signals.proofs.Change.raises.Reads as signals-Change-raises
use Rattle.timeouts.proofs.Timeouts.zero.Reads as timeouts-Timeouts-zero
use Rattle.timeouts.proofs.Timeouts.channels.Reads as timeouts-Timeouts-channels
use Rattle.timeouts.proofs.clocks.Reads as timeouts-clocks
use Rattle.timeouts.proofs.count.Reads as timeouts-count
use Rattle.requests.proofs.highest.Reads as requests_highest
use Rattle.requests.proofs.irq.Reads as requests-irq
use Rattle.requests.proofs.acknowledge.Reads as requests-acknowledge
use Rattle.events.proofs.is_line.Reads as events-is-line
use Rattle.events.proofs.is_serial_channel.Reads as events-is-serial-channel
use Rattle.events.proofs.is_in_range.Reads as events-is-in-range
use Rattle.events.proofs.class_of.Reads as events-class-of
use Rattle.events.proofs.value_of.Reads as events-value-of
use Rattle.events.proofs.number_of.Reads as events-number-of
use Rattle.events.proofs.RefusedAt.code.Reads as events-RefusedAt-code
use Rattle.selects.proofs.read_select.Reads as selects-read-select
use Rattle.selects.proofs.write_select.Reads as selects-write-select
use Rattle.selects.proofs.known.Reads as selects-known
use Rattle.record.proofs.input_of.Reads as record-input-of
use Rattle.record.proofs.operand.Reads as record-operand
use Rattle.record.proofs.verdict.Reads as record-verdict
use Rattle.words.proofs.middle.Reads as words-middle
use Rattle.text.proofs.Line.write.Reads as text-Line-write
use Rattle.text.proofs.refused.Reads as text-refused
use Rattle.device.proofs.Device.fresh.Reads as device-Device-fresh
use Rattle.device.proofs.Device.reset.Reads as device-Device-reset
use Rattle.device.proofs.Device.irq.Reads as device-Device-irq
use Rattle.device.proofs.Device.outputs.Reads as device-Device-outputs
use Rattle.device.proofs.Device.level.Reads as device-Device-level
use Rattle.device.proofs.Device.signal.Reads as device-Device-signal
use Rattle.device.proofs.Device.read.Reads as device-Device-read
use Rattle.device.proofs.Device.keeps_rule.Reads as device-Device-keeps-rule
use Rattle.step.proofs.step.Reads as step-step
use Rattle.step.proofs.write.Reads as step-write
use Rattle.step.proofs.acknowledge.Reads as step-acknowledge
use Rattle.layout.proofs.lines_from.Reads as layout-lines-from
use Rattle.layout.proofs.interrupts_from.Reads as layout-interrupts-from
use Rattle.layout.proofs.timers_from.Reads as layout-timers-from
use Rattle.image.proofs.load.Reads as image-load
use Rattle.image.proofs.store.Reads as image-store
use Rattle.image.proofs.save.Reads as image-save
use Rattle.lent.proofs.handle.Reads as lent-handle
use Rattle.lent.proofs.event_by_value.Reads as lent-event-by-value
use Rattle.row.proofs.ieo.Reads as row-ieo
use Rattle.row.proofs.acknowledge_four.Reads as row-acknowledge-four
use Rattle.answer.proofs.head.Reads as answer-head
use Rattle.answer.proofs.bytes_of.Reads as answer-bytes-of
use Rattle.tape.proofs.event_of.Reads as tape-event-of
use Rattle.tape.proofs.record_at.Reads as tape-record-at
use Rattle.checks.proofs.check.Reads as checks-check
use Rattle.run.proofs.run.Reads as run-run
use Rattle.row_images.proofs.acknowledge.Reads as row-images-acknowledge
use Rattle.transcript.proofs.transcript.Reads as transcript-transcript
use Rattle.transcript.proofs.lent_transcript.Reads as transcript-lent-transcript
use Rattle.mfp.proofs.mfp_run.Reads as mfp-mfp-run
use Rattle.mfp.proofs.mfp_fresh.Reads as mfp-mfp-fresh
use Rattle.mfp.proofs.mfp_row_acknowledge.Reads as mfp-mfp-row-acknowledge

-- the law: whatever a contract equates its outcome with, it leaves one
one : {X : Type 0} {meant x y : X} → x ≡ meant → y ≡ meant → x ≡ y
one p q = p ∙ sym q

-- ---- timer
timer_divisor_of_fixed : FixesResult timer-divisor-of.Learnt
timer_divisor_of_fixed κs a x y s t p q = one p q

timer_Timer_fresh_fixed : FixesResult timer-Timer-fresh.Learnt
timer_Timer_fresh_fixed κs a x y s t p q = one p q

timer_Timer_reset_fixed : FixesResult timer-Timer-reset.Learnt
timer_Timer_reset_fixed κs a x y s t p q = one p q

timer_Timer_counts_events_fixed : FixesResult timer-Timer-counts-events.Learnt
timer_Timer_counts_events_fixed κs a x y s t p q = one p q

timer_Timer_delays_fixed : FixesResult timer-Timer-delays.Learnt
timer_Timer_delays_fixed κs a x y s t p q = one p q

timer_Timer_measures_pulses_fixed : FixesResult timer-Timer-measures-pulses.Learnt
timer_Timer_measures_pulses_fixed κs a x y s t p q = one p q

timer_Timer_goes_fixed : FixesResult timer-Timer-goes.Learnt
timer_Timer_goes_fixed κs a x y s t p q = one p q

timer_Timer_is_due_fixed : FixesResult timer-Timer-is-due.Learnt
timer_Timer_is_due_fixed κs a x y s t p q = one p q

timer_Timer_pulse_fixed : FixesResult timer-Timer-pulse.Learnt
timer_Timer_pulse_fixed κs a x y s t p q = one p q

timer_Timer_clock_fixed : FixesResult timer-Timer-clock.Learnt
timer_Timer_clock_fixed κs a x y s t p q = one p q

timer_Timer_control_fixed : FixesResult timer-Timer-control.Learnt
timer_Timer_control_fixed κs a x y s t p q = one p q

timer_Timer_write_fixed : FixesResult timer-Timer-write.Learnt
timer_Timer_write_fixed κs a x y s t p q = one p q

timer_Timer_keeps_rule_fixed : FixesResult timer-Timer-keeps-rule.Learnt
timer_Timer_keeps_rule_fixed κs a x y s t p q = one p q

-- ---- channels
channels_channel_of_fixed : FixesResult channels-channel-of.Learnt
channels_channel_of_fixed κs a x y s t p q = one p q

channels_set_of_fixed : FixesResult channels-set-of.Learnt
channels_set_of_fixed κs a x y s t p q = one p q

channels_only_if_fixed : FixesResult channels-only-if.Learnt
channels_only_if_fixed κs a x y s t p q = one p q

channels_half_of_fixed : FixesResult channels-half-of.Learnt
channels_half_of_fixed κs a x y s t p q = one p q

channels_with_half_fixed : FixesResult channels-with-half.Learnt
channels_with_half_fixed κs a x y s t p q = one p q

-- ---- bits
bits_bit_value_fixed : FixesResult bits-bit-value.Learnt
bits_bit_value_fixed κs a x y s t p q = one p q

bits_number_from_fixed : FixesResult bits-number-from.Learnt
bits_number_from_fixed κs a x y s t p q = one p q

bits_four_bytes_fixed : FixesResult bits-four-bytes.Learnt
bits_four_bytes_fixed κs a x y s t p q = one p q

-- ---- countdown
countdown_clocks_fixed : FixesResult countdown-clocks.Learnt
countdown_clocks_fixed κs a x y s t p q = λ k. record { timer = one p.0 q.0 k; timeouts = one p.1 q.1 k }

-- ---- interrupts
interrupts_software_end_fixed : FixesResult interrupts-software-end.Learnt
interrupts_software_end_fixed κs a x y s t p q = one p q

interrupts_Interrupts_clear_fixed : FixesResult interrupts-Interrupts-clear.Learnt
interrupts_Interrupts_clear_fixed κs a x y s t p q = one p q

interrupts_Interrupts_written_out_fixed : FixesResult interrupts-Interrupts-written-out.Learnt
interrupts_Interrupts_written_out_fixed κs a x y s t p q = one p q

interrupts_Interrupts_read_fixed : FixesResult interrupts-Interrupts-read.Learnt
interrupts_Interrupts_read_fixed κs a x y s t p q = one p q

interrupts_Interrupts_write_fixed : FixesResult interrupts-Interrupts-write.Learnt
interrupts_Interrupts_write_fixed κs a x y s t p q = one p q

interrupts_Interrupts_raise_fixed : FixesResult interrupts-Interrupts-raise.Learnt
interrupts_Interrupts_raise_fixed κs a x y s t p q = one p q

interrupts_Interrupts_keeps_rule_fixed : FixesResult interrupts-Interrupts-keeps-rule.Learnt
interrupts_Interrupts_keeps_rule_fixed κs a x y s t p q = one p q

-- ---- lines
lines_Lines_fresh_fixed : FixesResult lines-Lines-fresh.Learnt
lines_Lines_fresh_fixed κs a x y s t p q = one p q

lines_Lines_written_out_fixed : FixesResult lines-Lines-written-out.Learnt
lines_Lines_written_out_fixed κs a x y s t p q = one p q

lines_Lines_reset_fixed : FixesResult lines-Lines-reset.Learnt
lines_Lines_reset_fixed κs a x y s t p q = one p q

lines_Lines_read_fixed : FixesResult lines-Lines-read.Learnt
lines_Lines_read_fixed κs a x y s t p q = one p q

lines_Lines_write_fixed : FixesResult lines-Lines-write.Learnt
lines_Lines_write_fixed κs a x y s t p q = one p q

lines_Lines_with_level_fixed : FixesResult lines-Lines-with-level.Learnt
lines_Lines_with_level_fixed κs a x y s t p q = one p q

lines_Lines_with_input_fixed : FixesResult lines-Lines-with-input.Learnt
lines_Lines_with_input_fixed κs a x y s t p q = one p q

-- ---- timers
timers_Timers_fresh_fixed : FixesResult timers-Timers-fresh.Learnt
timers_Timers_fresh_fixed κs a x y s t p q = one p q

timers_Timers_reset_fixed : FixesResult timers-Timers-reset.Learnt
timers_Timers_reset_fixed κs a x y s t p q = one p q

timers_Timers_tcdcr_fixed : FixesResult timers-Timers-tcdcr.Learnt
timers_Timers_tcdcr_fixed κs a x y s t p q = one p q

timers_Timers_read_fixed : FixesResult timers-Timers-read.Learnt
timers_Timers_read_fixed κs a x y s t p q = one p q

timers_Timers_write_fixed : FixesResult timers-Timers-write.Learnt
timers_Timers_write_fixed κs a x y s t p q = one p q

timers_Timers_outputs_fixed : FixesResult timers-Timers-outputs.Learnt
timers_Timers_outputs_fixed κs a x y s t p q = one p q

timers_Timers_keeps_rule_fixed : FixesResult timers-Timers-keeps-rule.Learnt
timers_Timers_keeps_rule_fixed κs a x y s t p q = one p q

-- ---- signals
signals_input_is_active_fixed : FixesResult signals-input-is-active.Learnt
signals_input_is_active_fixed κs a x y s t p q = one p q

signals_Change_input_becomes_fixed : FixesResult signals-Change-input-becomes.Learnt
signals_Change_input_becomes_fixed κs a x y s t p q = one p q

signals_Change_line_raises_fixed : FixesResult signals-Change-line-raises.Learnt
signals_Change_line_raises_fixed κs a x y s t p q = one p q

signals_Change_raises_fixed : FixesResult signals-Change-raises.Learnt
signals_Change_raises_fixed κs a x y s t p q = one p q

-- ---- timeouts
timeouts_Timeouts_zero_fixed : FixesResult timeouts-Timeouts-zero.Learnt
timeouts_Timeouts_zero_fixed κs a x y s t p q = one p q

timeouts_Timeouts_channels_fixed : FixesResult timeouts-Timeouts-channels.Learnt
timeouts_Timeouts_channels_fixed κs a x y s t p q = one p q

timeouts_clocks_fixed : FixesResult timeouts-clocks.Learnt
timeouts_clocks_fixed κs a x y s t p q = one p q

timeouts_count_fixed : FixesResult timeouts-count.Learnt
timeouts_count_fixed κs a x y s t p q = one p q

-- ---- requests
requests_highest_fixed : FixesResult requests_highest.Learnt
requests_highest_fixed κs a x y s t p q = one p q

requests_irq_fixed : FixesResult requests-irq.Learnt
requests_irq_fixed κs a x y s t p q = one p q

requests_acknowledge_fixed : FixesResult requests-acknowledge.Learnt
requests_acknowledge_fixed κs a x y s t p q = one p q

-- ---- events
events_is_line_fixed : FixesResult events-is-line.Learnt
events_is_line_fixed κs a x y s t p q = one p q

events_is_serial_channel_fixed : FixesResult events-is-serial-channel.Learnt
events_is_serial_channel_fixed κs a x y s t p q = one p q

events_is_in_range_fixed : FixesResult events-is-in-range.Learnt
events_is_in_range_fixed κs a x y s t p q = one p q

events_class_of_fixed : FixesResult events-class-of.Learnt
events_class_of_fixed κs a x y s t p q = one p q

events_value_of_fixed : FixesResult events-value-of.Learnt
events_value_of_fixed κs a x y s t p q = one p q

events_number_of_fixed : FixesResult events-number-of.Learnt
events_number_of_fixed κs a x y s t p q = one p q

events_RefusedAt_code_fixed : FixesResult events-RefusedAt-code.Learnt
events_RefusedAt_code_fixed κs a x y s t p q = one p q

-- ---- selects
selects_read_select_fixed : FixesResult selects-read-select.Learnt
selects_read_select_fixed κs a x y s t p q = one p q

selects_write_select_fixed : FixesResult selects-write-select.Learnt
selects_write_select_fixed κs a x y s t p q = one p q

selects_known_fixed : FixesResult selects-known.Learnt
selects_known_fixed κs a x y s t p q = one p q

-- ---- record
record_input_of_fixed : FixesResult record-input-of.Learnt
record_input_of_fixed κs a x y s t p q = one p q

record_operand_fixed : FixesResult record-operand.Learnt
record_operand_fixed κs a x y s t p q = one p q

record_verdict_fixed : FixesResult record-verdict.Learnt
record_verdict_fixed κs a x y s t p q = one p q

-- ---- words
words_middle_fixed : FixesResult words-middle.Learnt
words_middle_fixed κs a x y s t p q = one p q

-- ---- text
text_Line_write_fixed : FixesResult text-Line-write.Learnt
text_Line_write_fixed κs a x y s t p q = one p.0 q.0

text_Line_write_buffer_fixed : FixesBuffer text-Line-write.Learnt (λ κs s. s.1.0.now)
text_Line_write_buffer_fixed κs a x y s t p q = one p.1.0 q.1.0

text_refused_fixed : FixesResult text-refused.Learnt
text_refused_fixed κs a x y s t p q = one p.0 q.0

text_refused_buffer_fixed : FixesBuffer text-refused.Learnt (λ κs s. s.0.now)
text_refused_buffer_fixed κs a x y s t p q = one p.1.0 q.1.0

-- ---- device
device_Device_fresh_fixed : FixesResult device-Device-fresh.Learnt
device_Device_fresh_fixed κs a x y s t p q = one p q

device_Device_reset_fixed : FixesResult device-Device-reset.Learnt
device_Device_reset_fixed κs a x y s t p q = one p q

device_Device_irq_fixed : FixesResult device-Device-irq.Learnt
device_Device_irq_fixed κs a x y s t p q = one p q

device_Device_outputs_fixed : FixesResult device-Device-outputs.Learnt
device_Device_outputs_fixed κs a x y s t p q = one p q

device_Device_level_fixed : FixesResult device-Device-level.Learnt
device_Device_level_fixed κs a x y s t p q = one p q

device_Device_signal_fixed : FixesResult device-Device-signal.Learnt
device_Device_signal_fixed κs a x y s t p q = one p q

device_Device_read_fixed : FixesResult device-Device-read.Learnt
device_Device_read_fixed κs a x y s t p q = one p q

device_Device_keeps_rule_fixed : FixesResult device-Device-keeps-rule.Learnt
device_Device_keeps_rule_fixed κs a x y s t p q = one p q

-- ---- step
step_step_fixed : FixesResult step-step.Learnt
step_step_fixed κs a x y s t p q = one p q

step_write_fixed : FixesResult step-write.Learnt
step_write_fixed κs a x y s t p q = one p q

step_acknowledge_fixed : FixesResult step-acknowledge.Learnt
step_acknowledge_fixed κs a x y s t p q = one p q

-- ---- layout
layout_lines_from_fixed : FixesResult layout-lines-from.Learnt
layout_lines_from_fixed κs a x y s t p q = one p q

layout_interrupts_from_fixed : FixesResult layout-interrupts-from.Learnt
layout_interrupts_from_fixed κs a x y s t p q = one p q

layout_timers_from_fixed : FixesResult layout-timers-from.Learnt
layout_timers_from_fixed κs a x y s t p q = one p q

-- ---- image
image_load_fixed : FixesResult image-load.Learnt
image_load_fixed κs a x y s t p q = one p q

image_store_buffer_fixed : FixesBuffer image-store.Learnt (λ κs s. s.1.0.now)
image_store_buffer_fixed κs a x y s t p q = one p q

image_save_fixed : FixesResult image-save.Learnt
image_save_fixed κs a x y s t p q = one p.0 q.0

image_save_buffer_fixed : FixesBuffer image-save.Learnt (λ κs s. s.1.0.now)
image_save_buffer_fixed κs a x y s t p q = one p.1 q.1

-- ---- lent
lent_handle_fixed : FixesResult lent-handle.Learnt
lent_handle_fixed κs a x y s t p q = one p q

lent_event_by_value_fixed : FixesResult lent-event-by-value.Learnt
lent_event_by_value_fixed κs a x y s t p q = one p q

-- ---- row
row_ieo_fixed : FixesResult row-ieo.Learnt
row_ieo_fixed κs a x y s t p q = one p q

row_acknowledge_four_fixed : FixesResult row-acknowledge-four.Learnt
row_acknowledge_four_fixed κs a x y s t p q = λ i. record { row = one p.1 q.1 i; answer = one p.0 q.0 i }

-- ---- answer
answer_head_fixed : FixesResult answer-head.Learnt
answer_head_fixed κs a x y s t p q = one p q

answer_bytes_of_fixed : FixesResult answer-bytes-of.Learnt
answer_bytes_of_fixed κs a x y s t p q = one p q

-- ---- tape
tape_event_of_fixed : FixesResult tape-event-of.Learnt
tape_event_of_fixed κs a x y s t p q = one p q

tape_record_at_fixed : FixesResult tape-record-at.Learnt
tape_record_at_fixed κs a x y s t p q = one p q

-- ---- checks
checks_check_fixed : FixesResult checks-check.Learnt
checks_check_fixed κs a x y s t p q = one p q

-- ---- run
run_run_fixed : FixesResult run-run.Learnt
run_run_fixed κs a x y s t p q = one p.0 q.0

run_run_image_fixed : FixesBuffer run-run.Learnt (λ κs s. s.0.now)
run_run_image_fixed κs a x y s t p q = one p.1 q.1

run_run_answers_fixed : FixesBuffer run-run.Learnt (λ κs s. s.1.1.0.now)
run_run_answers_fixed κs a x y s t p q = one p.2 q.2

-- ---- row_images
row_images_acknowledge_fixed : FixesResult row-images-acknowledge.Learnt
row_images_acknowledge_fixed κs a x y s t p q = one p.0 q.0

row_images_acknowledge_buffer_fixed : FixesBuffer row-images-acknowledge.Learnt (λ κs s. s.0.now)
row_images_acknowledge_buffer_fixed κs a x y s t p q = one p.1 q.1

-- ---- transcript
transcript_transcript_fixed : FixesResult transcript-transcript.Learnt
transcript_transcript_fixed κs a x y s t p q = one p.0 q.0

transcript_transcript_buffer_fixed : FixesBuffer transcript-transcript.Learnt (λ κs s. s.1.0.now)
transcript_transcript_buffer_fixed κs a x y s t p q = one p.1.0 q.1.0

transcript_lent_transcript_fixed : FixesResult transcript-lent-transcript.Learnt
transcript_lent_transcript_fixed κs a x y s t p q = one p.0 q.0

transcript_lent_transcript_buffer_fixed : FixesBuffer transcript-lent-transcript.Learnt (λ κs s. s.1.0.now)
transcript_lent_transcript_buffer_fixed κs a x y s t p q = one p.1.0 q.1.0

-- ---- mfp
mfp_mfp_run_fixed : FixesResult mfp-mfp-run.Learnt
mfp_mfp_run_fixed κs a x y s t p q = one p.0 q.0

mfp_mfp_run_image_fixed : FixesBuffer mfp-mfp-run.Learnt (λ κs s. s.0.now)
mfp_mfp_run_image_fixed κs a x y s t p q = one p.1 q.1

mfp_mfp_run_answers_fixed : FixesBuffer mfp-mfp-run.Learnt (λ κs s. s.1.1.0.now)
mfp_mfp_run_answers_fixed κs a x y s t p q = one p.2 q.2

mfp_mfp_fresh_fixed : FixesResult mfp-mfp-fresh.Learnt
mfp_mfp_fresh_fixed κs a x y s t p q = one p.0 q.0

mfp_mfp_fresh_buffer_fixed : FixesBuffer mfp-mfp-fresh.Learnt (λ κs s. s.0.now)
mfp_mfp_fresh_buffer_fixed κs a x y s t p q = one p.1 q.1

mfp_mfp_row_acknowledge_fixed : FixesResult mfp-mfp-row-acknowledge.Learnt
mfp_mfp_row_acknowledge_fixed κs a x y s t p q = one p.0 q.0

mfp_mfp_row_acknowledge_buffer_fixed : FixesBuffer mfp-mfp-row-acknowledge.Learnt (λ κs s. s.0.now)
mfp_mfp_row_acknowledge_buffer_fixed κs a x y s t p q = one p.1 q.1
