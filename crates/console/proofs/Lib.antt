mod Notes
